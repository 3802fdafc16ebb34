-- All numbers are entered: those below the end of the chunks, the greatest one, and those in the map.
use Rattle.std.proofs.Common.{◌≡◌, ◌+◌, ◌<◌, ℕ, true, nat_eq, length, inl, inr, sym, ◌∙◌, ap, arith}
use Rattle.std.proofs.lemmas.Bool.{cases_eq, cases_lt}
use Rattle.std.specs.HashMap.{get}
use Rattle.std.specs.Option.{option_copied}
use Rattle.lrat_rules.specs.State.{clause_at}
use Rattle.lrat_checker.specs.Clauses.{near_at, stands_at, live_below}
use Rattle.lrat_checker.specs.Holders.{IsIndexOf, is_entered}
use Rattle.lrat_checker.specs.Walk.{passes_at}
use Rattle.lrat_checker.proofs.Chunks.{near_beyond}
use Rattle.lrat_checker.proofs.Kept.{place_kept}
use Rattle.lrat_checker.proofs.Stored.{stands_live, near_none}
use Rattle.lrat_checker.proofs.Walks.{both_pass}
use Rattle.lrat_checker.proofs.clauses.Clauses.enter_all.Goals as goal

pub returns : goal.returns
returns c =
    let chunks = c.self.inside.chunks.items in
    let near = near_at chunks in
    let far = get nat_eq c.self.inside.far in
    let top = c.self.inside.top in
    let live = live_below (stands_at near far) (top + 1) in
    let first = c.enter_near.new.holders in
    let second = c.enter_place.new.holders in
    let last = c.enter_far.new.holders in
    let kept = place_kept second last c.in_ok-enter_far.ensures.kept in
    let stands : (id : ℕ) → clause_at live id ≡ stands_at near far id = stands_live (stands_at near far) top c.self.invariant.beyond in
    let found : option_copied c.near_clause.result ≡ near top = c.near_clause.ensures
    ∙ ap (λ l. near_at l top) c.as_slice-chunks.ensures.value in
    let at_top : passes_at (is_entered last) top (near top) ≡ true = ap (passes_at (is_entered last) top) (sym found)
    ∙ kept top (option_copied c.near_clause.result) c.in_ok-enter_place.ensures.entered in
    let in_chunks : (id : ℕ) → id < c.saturating_mul-places.result → passes_at (is_entered last) id (near id) ≡ true =
    λ id lt. kept id (near id) (place_kept first second c.in_ok-enter_place.ensures.kept id (near id)
    (ap (λ l. passes_at (is_entered first) id (near_at l id)) (sym c.as_slice-chunks.ensures.value)
    ∙ c.in_ok-enter_near.ensures.entered id lt)) in
    let near_entered : (id : ℕ) → passes_at (is_entered last) id (near id) ≡ true = λ id.
    elim (cases_lt id c.saturating_mul-places.result) [
      | inl lt ↦ in_chunks id lt
      | inr le ↦ elim (cases_eq id top) [
        | inl same ↦ ap (λ k. passes_at (is_entered last) k (near k)) same ∙ at_top
        | inr other ↦ elim (cases_lt top id) [
          | inl beyond ↦ ap (passes_at (is_entered last) id) (near_none near far top id c.self.invariant beyond)
          | inr within ↦ ap (passes_at (is_entered last) id) (near_beyond chunks id
              (omega (arith, le, within, other, c.saturating_mul-places.ensures, ap length c.as_slice-chunks.ensures.value)))
        ]
      ]
    ] in
    let index : IsIndexOf last live = record {
      found = λ id. ap (passes_at (is_entered last) id) (stands id)
          ∙ both_pass (is_entered last) id (near id) (far id) (near_entered id) (c.in_ok-enter_far.ensures.entered id);
    } in
    rw (← c.self.view_is) index
