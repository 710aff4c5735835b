-- The texts of styles as the code holds them.
use Rattle.std.specs.Prelude.{ℕ, List, Option, Vec, map}
use Rattle.std.specs.Borrow.{Bor}
use Rattle.std.specs.Option.{option_copied, option_map}
use Rattle.std.specs.declared.alloc.Global.{Global}
use Rattle.reuse_style.specs.declared.comment_texts.CommentTexts.{CommentTexts as LentTexts}
use Rattle.reuse_style.specs.declared.comment_texts.StatedComments.{StatedComments as LentComments}
use Rattle.reuse_style.specs.CommentFile.{CommentTexts, NamedComments, StatedComments}
use Rattle.reuse_style.specs.RuleViews.{rules_view}

-- a list of texts
abbrev pub list_view : Option (Vec (Bor (List ℕ)) Global) → Option (List (List ℕ))
list_view = option_map (λ texts. map (λ text. text.now) texts.items)

abbrev pub texts_view : LentTexts → CommentTexts
texts_view texts = record {
  marker = option_copied texts.marker;
  line_lead = option_copied texts.line_lead;
  opener = option_copied texts.opener;
  closer = option_copied texts.closer;
  middle = option_copied texts.middle;
  lead = option_copied texts.lead;
  last_line = option_copied texts.last_line;
  first_lines = list_view texts.first_lines;
  front_matter = list_view texts.front_matter;
}

-- names with texts
abbrev pub named_view : Option (Vec (Bor (List ℕ) × LentTexts) Global) → Option (List NamedComments)
named_view = option_map (λ named. map (λ t. (t.0.now, texts_view t.1)) named.items)

abbrev pub stated_view : LentComments → StatedComments
stated_view stated = record { styles = named_view stated.styles; rules = rules_view stated.rules }
