use Rattle.std.proofs.Common.{rules, refl, sym, length}
use Rattle.std.proofs.lemmas.Option.{slice_get_read}
use Rattle.reuse_folder.proofs.remembered.Remembered.take.Goals as goal

pub returns-then-is_same-clause-version : goal.returns-then-is_same-clause-version
returns-then-is_same-clause-version c = record {
  at = c.in_ok-at.at;
  file = c.in_ok-file.file.now;
  is_there = slice_get_read c.args.self.now.files.items (length c.args.self.now.files.items) c.in_ok-at.at
      c.in_ok-file.file.now refl c.in_ok-file.ensures.item.3.0 c.in_ok-file.ensures.item.1;
  of_version = search rules;
  has_bytes = sym c.in_ok-bytes.ensures.value;
}
