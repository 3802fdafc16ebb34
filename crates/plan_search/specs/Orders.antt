-- The orders of one formula that are made so far, each under its kind.
use Rattle.std.specs.Prelude.{◌≡◌, ℕ, List, Option, None, Some, IsTrue, is_some}
use Rattle.plan_search.specs.declared.orders.Kind.{Kind}
use Rattle.plan_search.specs.declared.orders.Kind.TheVariants.{Natural, By}
use Rattle.plan_search.specs.declared.orders.Method.{Method}
use Rattle.plan_search.specs.declared.orders.Method.TheVariants.{Degree, Cardinality, Levels, Profile}

-- how many variables they have, the one that was given, and those that were found by a method
pub record Made : Type 0 where
  pub vars : ℕ
  pub given : List ℕ
  pub by_degree : Option (List ℕ)
  pub by_cardinality : Option (List ℕ)
  pub by_levels : Option (List ℕ)
  pub by_profile : Option (List ℕ)

-- the given one alone
abbrev pub none_beside : ℕ → List ℕ → Made
none_beside vars given = record {
  vars = vars;
  given = given;
  by_degree = None;
  by_cardinality = None;
  by_levels = None;
  by_profile = None;
}

-- the order of a kind, if it is made
abbrev pub order_of : Kind → Made → Option (List ℕ)
order_of Natural made = Some made.given
order_of (By Degree) made = made.by_degree
order_of (By Cardinality) made = made.by_cardinality
order_of (By Levels) made = made.by_levels
order_of (By Profile) made = made.by_profile

abbrev pub IsMade : Kind → Made → Type 0
IsMade kind made = IsTrue (is_some (order_of kind made))

-- with an order that is found by this method
abbrev pub with_order : Method → List ℕ → Made → Made
with_order Degree order made = record made { by_degree = Some order }
with_order Cardinality order made = record made { by_cardinality = Some order }
with_order Levels order made = record made { by_levels = Some order }
with_order Profile order made = record made { by_profile = Some order }

-- Those that were made stay, and more may be made, of the same variables.
pub record MakesMore (old new : Made) : Type 0 where
  pub vars : new.vars ≡ old.vars
  pub stays : (kind : Kind) (order : List ℕ) → order_of kind old ≡ Some order → order_of kind new ≡ Some order
