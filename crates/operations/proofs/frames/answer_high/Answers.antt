-- What is left to show of `answer_high`.
use Rattle.std.proofs.Common.{◌≡◌, ◌-◌, ◌++◌, ◌∷◌, [], List, Some, length, reverse, set, get_or, refl, sym, ◌∙◌, ap, arith}
use Rattle.std.proofs.lemmas.List.{length-append, reverse-append, reverse-reverse, set-append_right}
use Rattle.std.proofs.Math.Seq.{get_or-append_seam}
use Rattle.operations.specs.declared.frames.Frame.{Frame}
use Rattle.operations.proofs.frames.answer_high.Goals as goal

pub returns-then-count-gt0 : goal.returns-then-count-gt0
returns-then-count-gt0 g c frame below is =
    let items = c.args.frames.now.items in
    let place = c.len-count.result - 1 in
    let split : items ≡ reverse below ++ frame ∷ [] = sym (reverse-reverse items) ∙ ap reverse is ∙ reverse-append (frame ∷ []) below in
    let last : place ≡ length (reverse below) = omega
    (arith, c.len-count.ensures, ap length split, length-append (reverse below) (frame ∷ [])) in
    let own : c.index_mut.result.now ≡ frame = c.index_mut.ensures.value
    ∙ ap (λ (l : List (Frame g.row.P.Denot g.row.A.Denot)). get_or l place c.index_mut.result.now) split
    ∙ ap (λ n. get_or (reverse below ++ frame ∷ []) n c.index_mut.result.now) last
    ∙ get_or-append_seam (reverse below) frame [] c.index_mut.result.now in
    let answered : Frame g.row.P.Denot g.row.A.Denot = record { parts = c.index_mut.result.now.parts; high = Some c.args.high } in
    let put : set items place answered ≡ reverse below ++ answered ∷ [] =
    ap (λ (l : List (Frame g.row.P.Denot g.row.A.Denot)). set l place answered) split
    ∙ set-append_right (reverse below) (frame ∷ []) (length (reverse below)) place answered refl (omega (arith, last))
    ∙ ap (λ n. reverse below ++ set (frame ∷ []) n answered) {y = 0} (omega (arith, last)) in
    ap reverse put ∙ reverse-append (reverse below) (answered ∷ [])
    ∙ (λ i. record { parts = (own i).parts; high = Some c.args.high } ∷ reverse-reverse below i)
