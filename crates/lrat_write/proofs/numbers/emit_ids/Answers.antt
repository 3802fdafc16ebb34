-- Piece by piece.
use Rattle.std.proofs.Common.{◌≡◌, ◌∙◌, ◌++◌, ℕ, true, List, [], ◌∷◌, length, ap, refl, sym, append_assoc, arith, eqb-true}
use Rattle.std.specs.Prelude.{◌==◌}
use Rattle.std.proofs.lemmas.List.{append-nil, take-append-drop}
use Rattle.std.proofs.lemmas.List.Concat.{flat_map-append}
use Rattle.host_io.proofs.Emitting.{fails_within, in_turn, nothing, same_text}
use Rattle.lrat_write.specs.LineText.{ids_text, led_id, lead}
use Rattle.lrat_write.proofs.numbers.emit_ids.Goals as goal

pub pieces-init : goal.pieces-init
pieces-init g c = ([], (refl, (nothing (g.S.Sink.channel c.args.sink.now) c.args.held.now.items, refl)))

-- a piece, and what is left behind it
parts : (front rest piece more ids : List ℕ) → front ++ rest ≡ ids → piece ++ more ≡ rest → (front ++ piece) ++ more ≡ ids
parts front rest piece more ids all cut = append_assoc front piece more ∙ ap (λ (l : List ℕ). front ++ l) cut ∙ all

pub pieces-preserved : goal.pieces-preserved
pieces-preserved g c =
    let so_far = c.pieces.invariant in
    let front = so_far.0 in
    let piece = c.split_at.result.0.now in
    let cut = (λ i. c.split_at.ensures.front i ++ c.split_at.ensures.back i) ∙ take-append-drop c.min.result c.pieces.rest.now in (
      front ++ piece,
      (
        parts front c.pieces.rest.now piece c.split_at.result.1.now c.args.ids.now so_far.1.0 cut,
        (
          same_text (in_turn so_far.1.1.0 refl c.in_ok-emit_piece.ensures.emits)
              (sym (flat_map-append (led_id (lead c.args.minus)) front piece)),
          c.in_ok-emit_piece.ensures.beside ∙ so_far.1.1.1,
        ),
      ),
    )

pub returns-in_err-emit_piece-clause-emits : goal.returns-in_err-emit_piece-clause-emits
returns-in_err-emit_piece-clause-emits g c =
    let so_far = c.pieces.invariant in
    let front = so_far.0 in
    let piece = c.split_at.result.0.now in
    let more = c.split_at.result.1.now in
    let text = led_id (lead c.args.minus) in
    let cut = (λ i. c.split_at.ensures.front i ++ c.split_at.ensures.back i) ∙ take-append-drop c.min.result c.pieces.rest.now in
    fails_within (in_turn so_far.1.1.0 refl c.in_err-emit_piece.ensures.emits) refl c.from_residual.ensures.0
    (ids_text (lead c.args.minus) c.args.ids.now) (ids_text (lead c.args.minus) more) c.emit_piece.new.held.items
    (ap (ids_text (lead c.args.minus)) (sym (parts front c.pieces.rest.now piece more c.args.ids.now so_far.1.0 cut))
    ∙ flat_map-append text (front ++ piece) more ∙ ap (λ (l : List ℕ). l ++ ids_text (lead c.args.minus) more)
    (flat_map-append text front piece))

none_left : (list : List ℕ) → (length list == 0) ≡ true → [] ≡ list
none_left [] is = refl
none_left (x ∷ list) is = absurd (let same : length (x ∷ list) ≡ 0 = eqb-true (length (x ∷ list)) 0 is in omega (arith, same))

pub returns-clause-emits : goal.returns-clause-emits
returns-clause-emits g c =
    let so_far = c.pieces.invariant in
    same_text so_far.1.1.0 (ap (ids_text (lead c.args.minus))
    (sym (append-nil so_far.0) ∙ ap (λ (l : List ℕ). so_far.0 ++ l)
    (none_left c.pieces.rest.now (sym c.is_empty.ensures ∙ c.pieces-test.false)) ∙ so_far.1.0))
