-- What is live comes from before or came since: of states that grew, of those with fewer clauses, and one after another.
use Rattle.std.proofs.Common.{◌≡◌, ◌≤◌, ◌∙◌, true, false, ℤ, List, Option, None, Some, is_some, sym, arith, inl, inr}
use Rattle.lrat_rules.specs.State.{State, clause_at}
use Rattle.node_table.specs.Tied.{KeepsClauses}
use Rattle.node_table.specs.Progress.{ComesSince}
use Rattle.node_table.proofs.Stands.{Grows}

some_of : (o : Option (List ℤ)) → is_some o ≡ true → (clause : List ℤ) × (o ≡ Some clause)
some_of None is = absurd (let e : false ≡ true = is in cc)
some_of (Some clause) is = (clause, cc)

pub ComesSince-grown : (old new : State) → Grows old new → ComesSince old new
ComesSince-grown old new grows id clause is = elim (grows.gives.next id (let e : is_some (clause_at new.live id) ≡ true = cc in e)) [
  | inl there ↦
      let was = some_of (clause_at old.live id) there in
      let same : Some was.0 ≡ Some clause = sym (grows.clauses id was.0 was.1) ∙ is in inl (was.1 ∙ same)
  | inr above ↦ inr (above, (grows.numbers id clause is).1)
]

pub ComesSince-fewer : (old new : State) → KeepsClauses new.live old.live → ComesSince old new
ComesSince-fewer old new among id clause is = inl (among id clause is)

pub ComesSince-further : (old mid new : State) → old.top ≤ mid.top → mid.top ≤ new.top → ComesSince old mid → ComesSince mid new
    → ComesSince old new
ComesSince-further old mid new less more before after id clause is = elim (after id clause is) [
  | inl there ↦
      elim (before id clause there) [
        | inl first ↦ inl first
        | inr came ↦ inr (came.0, omega (arith, came.1, more))
      ]
  | inr came ↦ inr (omega (arith, less, came.0), came.1)
]
