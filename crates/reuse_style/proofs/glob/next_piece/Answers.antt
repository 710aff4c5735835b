use Rattle.std.proofs.Common.{sym, ap, ◌∙◌, ◌∷◌, eq-eqb}
use Rattle.std.proofs.lemmas.Bool.{ne_eqb}
use Rattle.std.proofs.lemmas.List.{nil_from_length}
use Rattle.reuse_style.specs.Globs.{read_glob, onto_glob}
use Rattle.reuse_style.proofs.GlobLemmas.{plain_read, lone_read, escaped_read, stray_read}
use Rattle.reuse_style.proofs.glob.next_piece.Goals as goal

pub returns-then-first-ne92-clause-piece : goal.returns-then-first-ne92-clause-piece
returns-then-first-ne92-clause-piece c =
    plain_read c.args.first c.args.tail.now (ne_eqb c.args.first 92 c.if-first-ne92.true)
    ∙ ap (λ piece. onto_glob piece (read_glob c.args.tail.now)) (sym c.single_piece.ensures)

pub returns-in_default-clause-piece : goal.returns-in_default-clause-piece
returns-in_default-clause-piece c =
    ap (λ tail. read_glob (c.args.first ∷ tail)) (nil_from_length c.args.tail.now c.in_default.ensures.cases)
    ∙ lone_read c.args.first (eq-eqb c.args.first 92 c.if-first-ne92.false)

pub returns-then-can_be_escaped-clause-piece : goal.returns-then-can_be_escaped-clause-piece
returns-then-can_be_escaped-clause-piece c =
    ap (λ tail. read_glob (c.args.first ∷ tail)) c.in-Some.ensures.cases.0
    ∙ escaped_read c.args.first c.in-Some.escaped.now c.in-Some.left.now
    (eq-eqb c.args.first 92 c.if-first-ne92.false) (sym c.if-can_be_escaped.ensures)

pub returns-else-can_be_escaped-clause-piece : goal.returns-else-can_be_escaped-clause-piece
returns-else-can_be_escaped-clause-piece c =
    ap (λ tail. read_glob (c.args.first ∷ tail)) c.in-Some.ensures.cases.0
    ∙ stray_read c.args.first c.in-Some.escaped.now c.in-Some.left.now
    (eq-eqb c.args.first 92 c.if-first-ne92.false) (sym c.if-can_be_escaped.ensures)
