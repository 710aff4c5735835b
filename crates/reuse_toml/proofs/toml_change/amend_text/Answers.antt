use Rattle.std.proofs.Common.{◌≡◌, ◌<◌, ◌∙◌, ap, length, rules}
use Rattle.reuse_toml.specs.TomlPlaces.{place_behind}
use Rattle.reuse_toml.specs.TomlValues.{piece_amended}
use Rattle.reuse_toml.specs.TomlAmending.{text_amended}
use Rattle.reuse_toml.proofs.TomlLemmas.{pieces-first, amended-more, amended-stop, amended-end, toml-stop}
use Rattle.reuse_toml.proofs.toml_change.amend_text.Goals as goal

pub returns-in-Err : goal.returns-in-Err
returns-in-Err c =
    let low : 0 < length c.loop-rest.rest.now = search rules in
    let parts = pieces-first c.loop-rest.rest.now c.split_piece.result.0.now c.split_piece.result.1.now low
    c.split_piece.ensures.some c.split_piece.ensures.front c.split_piece.ensures.rest in
    toml-stop
    (piece_amended c.args.amendments.now c.loop-rest.place c.piece_kind-kind.result c.split_piece.result.0.now)
    (text_amended c.args.amendments.now c.args.file.now) c.in-Err.refusal
    (λ expected. amended-stop c.args.amendments.now c.loop-rest.place c.loop-rest.text c.loop-rest.rest.now
    c.split_piece.result.0.now c.split_piece.result.1.now c.piece_kind-kind.result c.in-Err.refusal _ parts
    c.piece_kind-kind.ensures expected c.loop-rest.invariant)
    c.in-Err.ensures

pub loop-rest-preserved : goal.loop-rest-preserved
loop-rest-preserved c =
    let low : 0 < length c.loop-rest.rest.now = search rules in
    let parts = pieces-first c.loop-rest.rest.now c.split_piece.result.0.now c.split_piece.result.1.now low
    c.split_piece.ensures.some c.split_piece.ensures.front c.split_piece.ensures.rest in
    amended-more c.args.amendments.now c.loop-rest.place c.loop-rest.text c.loop-rest.rest.now
    c.split_piece.result.0.now c.split_piece.result.1.now c.push_piece.new.text c.piece_kind-kind.result c.in-Ok.new
    c.place_behind-place.result _ parts c.piece_kind-kind.ensures c.in-Ok.ensures
    (c.place_behind-place.ensures ∙ ap (place_behind c.loop-rest.place c.piece_kind-kind.result
    c.split_piece.result.0.now) c.is_removed_piece.ensures) c.in_ok-push_piece.ensures c.loop-rest.invariant

pub loop-rest-preserved-in_ok-push_piece : goal.loop-rest-preserved-in_ok-push_piece
loop-rest-preserved-in_ok-push_piece c =
    let low : 0 < length c.loop-rest.rest.now = search rules in
    let parts = pieces-first c.loop-rest.rest.now c.split_piece.result.0.now c.split_piece.result.1.now low
    c.split_piece.ensures.some c.split_piece.ensures.front c.split_piece.ensures.rest in
    amended-more c.args.amendments.now c.loop-rest.place c.loop-rest.text c.loop-rest.rest.now
    c.split_piece.result.0.now c.split_piece.result.1.now c.push_piece.new.text c.piece_kind-kind.result c.in-Ok.new
    c.place_behind-place.result _ parts c.piece_kind-kind.ensures c.in-Ok.ensures
    (c.place_behind-place.ensures ∙ ap (place_behind c.loop-rest.place c.piece_kind-kind.result
    c.split_piece.result.0.now) c.is_removed_piece.ensures) c.in_ok-push_piece.ensures c.loop-rest.invariant

pub returns : goal.returns
returns c =
    let none : length c.loop-rest.rest.now ≡ 0 = search rules in
    amended-end c.args.amendments.now c.loop-rest.place c.loop-rest.text c.loop-rest.rest.now _ none
    c.loop-rest.invariant
