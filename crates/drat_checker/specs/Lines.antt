-- When the line of an addition is good in an LRAT proof over the clauses that stand: by hints that refute its clause, or by a group of
-- hints for each candidate. (Cruz-Filipe, Heule, Hunt, Kaufmann, Schneider-Kamp: Efficient Certified RAT Verification, CADE 2017.)
use Rattle.std.specs.Prelude.{◌≡◌, ℕ, ◌+◌, ◌<◌, Bool, true, false, ℤ, List, [], ◌∷◌, ◌++◌, None, map, if◌then◌else◌}
use Rattle.std.specs.List.{filter, list_all}
use Rattle.cnf_base.specs.declared.list.Group.{Group}
use Rattle.cnf_base.specs.ProofText.{is_empty, is_group, is_id}
use Rattle.lrat_rules.specs.State.{State, Live}
use Rattle.lrat_rules.specs.Chain.{FalseSet, literals_of}
use Rattle.lrat_rules.specs.Addition.{fault, groups_fault, holds_negated, if_live, is_settled}
use Rattle.drat_rules.specs.Quiet.{has_quiet}
use Rattle.drat_checker.specs.declared.addition.Refutation.{Refutation}
use Rattle.drat_checker.specs.Places.{Place, Places, place_at, standing}
use Rattle.drat_checker.specs.Numbers.{has_number}
use Rattle.drat_checker.specs.Trail.{Trail}
use Rattle.drat_checker.specs.Reasons.{AreByUnits, AreReasons, Refutes}
use Rattle.drat_checker.specs.Hints.{AreLive, is_tautology, plain}
use Rattle.drat_checker.specs.Exact.{is_exact, is_exact_group, is_exact_line}

-- the clause of a place is a candidate, and no tautology
abbrev pub is_candidate_at : ℤ → Place → Bool
is_candidate_at pivot place = if_live (holds_negated pivot) (plain place)

-- the numbers of the candidates among places, the first of which has this number
abbrev pub candidates_from : ℕ → ℤ → Places → List ℕ
candidates_from number pivot [] = []
candidates_from number pivot (place ∷ places) =
    if is_candidate_at pivot place then number ∷ candidates_from (number + 1) pivot places else candidates_from (number + 1) pivot places

abbrev pub candidates_of : Places → List ℤ → List ℕ
candidates_of places [] = []
candidates_of places (pivot ∷ others) = candidates_from 0 pivot places

-- the numbers in the LRAT proof
abbrev pub ids_from : List ℕ → List ℕ
ids_from numbers = map (λ number. number + 1) numbers

abbrev pub ids_of : List Group → List ℕ
ids_of groups = map (λ group. group.id) groups

-- which groups the addition of a clause has: none where propagation comes to a conflict, else that of each candidate
abbrev pub group_ids : Places → List ℤ → List ℕ
group_ids places clause = if has_quiet (standing places) clause then ids_from (candidates_of places clause) else []

-- the hints are an exact refutation of what is assumed
pub record CloseFrom (places : Places) (assumed : List ℤ) (hints : List ℕ) : Type 0 where
  pub ids : list_all is_id hints ≡ true
  pub exact : (live : Live) (n : FalseSet) → AreLive live places → ((x : ℤ) → n x ≡ literals_of assumed x) → is_exact live n hints ≡ true

-- they are where this is how propagation came to a conflict
pub record Explain (places : Places) (trail : Trail) (assumed : List ℤ) (refutation : Refutation) (hints : List ℕ) : Type 0 where
  pub closes : AreReasons places assumed trail → AreByUnits places places trail → Refutes places trail assumed refutation
      → is_tautology assumed ≡ false → CloseFrom places assumed hints

-- The groups are exact, of the candidates among these numbers in turn, each blocked or refuted.
pub record FitGroups (places : Places) (clause : List ℤ) (pivot : ℤ) (seen : List ℕ) (groups : List Group) : Type 0 where
  pub named : list_all is_group groups ≡ true
  pub good : (live : Live) → AreLive live places → groups_fault live (literals_of clause) pivot groups ≡ None
  pub exact : (live : Live) → AreLive live places → list_all (is_exact_group live (literals_of clause) pivot) groups ≡ true
  pub ids : ids_of groups ≡ ids_from (filter (λ number. is_candidate_at pivot (place_at places number)) seen)
  pub settled : (live : Live) → AreLive live places → (number : ℕ) → has_number number seen ≡ true
      → is_settled live (literals_of clause) pivot groups (number + 1) ≡ true

-- one number more is seen
pub record FitOneMore (places : Places) (clause : List ℤ) (pivot : ℤ) (number : ℕ) (old new : List Group) : Type 0 where
  pub fits : (seen : List ℕ) → FitGroups places clause pivot seen old → FitGroups places clause pivot (seen ++ number ∷ []) new

-- Under each number above the greatest so far the line is good, and it is exact; the numbers that it names are in their range. It has hints
-- where propagation from the clause comes to a conflict, and else the groups of all candidates in turn.
pub record IsGoodLine (places : Places) (clause : List ℤ) (hints : List ℕ) (groups : List Group) : Type 0 where
  pub ids : list_all is_id hints ≡ true
  pub named : list_all is_group groups ≡ true
  pub good : (state : State) (id : ℕ) → AreLive state.live places → state.top < id → fault state id clause hints groups ≡ None
  pub exact : (live : Live) → AreLive live places → is_exact_line live clause hints groups ≡ true
  pub named_ids : ids_of groups ≡ group_ids places clause
  pub by_hints : (live : Live) → AreLive live places → is_empty hints ≡ has_quiet (standing places) clause
