-- What a quantification by a set says: it holds exactly where some values of its levels make the function hold.
use Rattle.std.proofs.Common.{◌≡◌, ◌∙◌, ◌||◌, ◌==◌, ℕ, Bool, true, false, List, [], ◌∷◌, refl, sym, ap, eqb-true, inl, inr}
use Rattle.std.proofs.lemmas.Bool.{or_cases, or_left, or_right}
use Rattle.std.specs.List.{list_any}
use Rattle.std.specs.Prelude.{if◌then◌else◌}
use Rattle.node_table.specs.declared.node.Node.{Node}
use Rattle.node_table.specs.Diagram.{Graph}
use Rattle.node_table.specs.Value.{Levels}
use Rattle.operations.specs.Results.{Quantified, with_level}
use Rattle.quantify.specs.SomeValues.{HoldsBySome, SetMeaning, SetQuantified, some_values}

both_false : (x y : Bool) → (x || y) ≡ false → (x ≡ false) × (y ≡ false)
both_false true y is = cc
both_false false y is = (refl, is)

-- with this value of a level, and some values of the others
one_some : (level : ℕ) (more : List ℕ) (f : Levels → Bool) (a : Levels) (value : Bool) → HoldsBySome more f (with_level a level value)
    → HoldsBySome (level ∷ more) f a
one_some level more f a value by = record {
  values = by.values;
  beside = λ i none.
      let none_of = both_false (i == level) (list_any (λ l. i == l) more) none in
      by.beside i none_of.1 ∙ (λ k. if none_of.0 k then value else a i);
  holds = by.holds;
}

some_holds : (set : List ℕ) (f : Levels → Bool) (a : Levels) → some_values set f a ≡ true → HoldsBySome set f a
some_holds [] f a is = record { values = a; beside = λ i none. refl; holds = is }
some_holds (level ∷ more) f a is =
    elim (or_cases (some_values more f (with_level a level true)) (some_values more f (with_level a level false)) is) [
      | inl high ↦ one_some level more f a true (some_holds more f (with_level a level true) high)
      | inr low ↦ one_some level more f a false (some_holds more f (with_level a level false) low)
    ]

-- the values of the levels behind the first one, whose own is set
with_own : (level : ℕ) (more : List ℕ) (f : Levels → Bool) (a : Levels) (by : HoldsBySome (level ∷ more) f a)
    → HoldsBySome more f (with_level a level (by.values level))
with_own level more f a by = record {
  values = by.values;
  beside = λ i none.
      elim (i == level) as (λ b. (i == level) ≡ b → by.values i ≡ (if b then by.values level else a i)) [
        | true ↦ λ is. ap by.values (eqb-true i level is)
        | false ↦ λ is. by.beside i (λ k. is k || none k)
      ] refl;
  holds = by.holds;
}

by_value : (value : Bool) (x : Bool → Bool) → x value ≡ true → (x true || x false) ≡ true
by_value true x is = or_left (x true) (x false) is
by_value false x is = or_right (x true) (x false) is

holds_some : (set : List ℕ) (f : Levels → Bool) (a : Levels) → HoldsBySome set f a → some_values set f a ≡ true
holds_some [] f a by = (λ k. f (λ i. sym (by.beside i refl) k)) ∙ by.holds
holds_some (level ∷ more) f a by = by_value (by.values level) (λ value. some_values more f (with_level a level value))
    (holds_some more f (with_level a level (by.values level)) (with_own level more f a by))

by_one : (graph : Graph) (u w : Node) (level : ℕ) → SetQuantified graph u (level ∷ []) w → Quantified graph u level w
by_one graph u w level found = record { stands = found.stands; not_above = found.not_above; value = found.value }

pub set_meaning : SetMeaning
set_meaning = record { some = some_holds; by = holds_some; one = by_one }
