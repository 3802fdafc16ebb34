-- A clause's diagram is put together from the bottom up.
use Rattle.std.proofs.Common.{◌≡◌, ℕ, true, ◌||◌, ℤ, neg_ℤ, List, [], ◌∷◌, None, Some, int_eq, refl, ap, ◌∙◌}
use Rattle.lrat_rules.specs.State.{Live, clause_at}
use Rattle.lrat_rules.specs.Chain.{literals_of}
use Rattle.hint_chain.specs.declared.unit.UnitPart.{UnitPart}
use Rattle.hint_chain.specs.Closing.{are_apart}
use Rattle.hint_chain.specs.Units.{next_id, FalsifiesLiteral, FalsifiesNext, IsNextLinked, IsLinked, path_literals, IsUnitPath}

pub IsUnitPath-last : (live : Live) (part : UnitPart) (node : ℤ) → FalsifiesLiteral live part node → next_id part ≡ None
    → are_apart (node ∷ part.lit ∷ []) ≡ true
    → IsUnitPath live (part ∷ []) (node ∷ []) (part.lit ∷ [])
IsUnitPath-last live part node literal none apart = record { linked = (literal, none, tt); apart = apart; exact = λ x. refl }

pub IsUnitPath-on_top : (live : Live) (part : UnitPart) (path : List UnitPart) (node next : ℤ) (nodes literals : List ℤ)
    → IsUnitPath live path (next ∷ nodes) literals
    → FalsifiesLiteral live part node → FalsifiesNext live part node next → are_apart (node ∷ part.lit ∷ path_literals path (next ∷ nodes))
    ≡ true
    → IsUnitPath live (part ∷ path) (node ∷ next ∷ nodes) (part.lit ∷ literals)
IsUnitPath-on_top live part path node next nodes literals is literal step apart = record {
  linked = (literal, step, is.linked);
  apart = apart;
  exact = λ x. ap (λ b. int_eq x part.lit || b) (is.exact x);
}

-- what stands in the first live clauses stands in the others
abbrev pub StandsIn : Live → Live → Type 0
StandsIn live more = (id : ℕ) (own : List ℤ) → clause_at live id ≡ Some own → clause_at more id ≡ Some own

next_kept : (live more : Live) (part : UnitPart) (node : ℤ) (nodes : List ℤ) → StandsIn live more → IsNextLinked live part node nodes
    → IsNextLinked more part node nodes
next_kept live more part node [] stands none = none
next_kept live more part node (next ∷ nodes) stands step = record {
  id = step.id;
  named = step.named;
  stands = stands step.id (node ∷ part.lit ∷ neg_ℤ next ∷ []) step.stands;
}

linked_kept : (live more : Live) (path : List UnitPart) (nodes : List ℤ) → StandsIn live more → IsLinked live path nodes
    → IsLinked more path nodes
linked_kept live more [] [] stands linked = tt
linked_kept live more [] (node ∷ nodes) stands linked = linked
linked_kept live more (part ∷ path) [] stands linked = linked
linked_kept live more (part ∷ path) (node ∷ nodes) stands linked =
    let literal = linked.0 in
    let here : FalsifiesLiteral more part node = record {
      id = literal.id;
      named = literal.named;
      stands = stands literal.id (node ∷ neg_ℤ part.lit ∷ []) literal.stands;
    } in
    (here, next_kept live more part node nodes stands linked.1, linked_kept live more path nodes stands linked.2)

pub IsUnitPath-kept : (live more : Live) (path : List UnitPart) (nodes clause : List ℤ) → StandsIn live more
    → IsUnitPath live path nodes clause → IsUnitPath more path nodes clause
IsUnitPath-kept live more path nodes clause stands is = record {
  linked = linked_kept live more path nodes stands is.linked;
  apart = is.apart;
  exact = is.exact;
}

pub IsUnitPath-same_set : (live : Live) (path : List UnitPart) (nodes clause other : List ℤ)
    → ((x : ℤ) → literals_of other x ≡ literals_of clause x)
    → IsUnitPath live path nodes clause → IsUnitPath live path nodes other
IsUnitPath-same_set live path nodes clause other same is = record { linked = is.linked; apart = is.apart; exact = λ x. same x ∙ is.exact x }
