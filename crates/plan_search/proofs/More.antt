-- Orders that are made stay as more are made.
use Rattle.std.proofs.Common.{◌≡◌, ◌∙◌, ℕ, List, Option, None, Some, true, false, true≢false, refl, sym, ap}
use Rattle.std.specs.Prelude.{is_some}
use Rattle.plan_search.specs.declared.orders.Kind.{Kind}
use Rattle.plan_search.specs.declared.orders.Kind.TheVariants.{Natural, By}
use Rattle.plan_search.specs.declared.orders.Method.{Method}
use Rattle.plan_search.specs.declared.orders.Method.TheVariants.{Degree, Cardinality, Levels, Profile}
use Rattle.plan_search.specs.Orders.{IsMade, Made, MakesMore, order_of, with_order}

pub more_none : (made : Made) → MakesMore made made
more_none made = record { vars = refl; stays = λ kind order e. e }

pub more_then : {old mid new : Made} → MakesMore old mid → MakesMore mid new → MakesMore old new
more_then first second = record {
  vars = second.vars ∙ first.vars;
  stays = λ kind order e. second.stays kind order (first.stays kind order e);
}

-- one that was made is made yet
some_yet : (old new : Option (List ℕ)) → ((order : List ℕ) → old ≡ Some order → new ≡ Some order) → is_some old ≡ true → is_some new ≡ true
some_yet None new stays is = cc
some_yet (Some order) new stays is = ap is_some (stays order refl)

pub made_yet : (kind : Kind) (old new : Made) → MakesMore old new → IsMade kind old → IsMade kind new
made_yet kind old new more is = some_yet (order_of kind old) (order_of kind new) (more.stays kind) is

no_order : {found : Option (List ℕ)} {order : List ℕ} → is_some found ≡ false → found ≡ Some order → ⊥
no_order none e = true≢false (sym (ap is_some e) ∙ none)

-- one that wasn't there comes beside them
stays_with : (method : Method) (order : List ℕ) (made : Made) → is_some (order_of (By method) made) ≡ false → (kind : Kind) (other : List ℕ)
    → order_of kind made ≡ Some other → order_of kind (with_order method order made) ≡ Some other
stays_with Degree order made none Natural other e = e
stays_with Degree order made none (By Degree) other e = absurd (no_order none e)
stays_with Degree order made none (By Cardinality) other e = e
stays_with Degree order made none (By Levels) other e = e
stays_with Degree order made none (By Profile) other e = e
stays_with Cardinality order made none Natural other e = e
stays_with Cardinality order made none (By Degree) other e = e
stays_with Cardinality order made none (By Cardinality) other e = absurd (no_order none e)
stays_with Cardinality order made none (By Levels) other e = e
stays_with Cardinality order made none (By Profile) other e = e
stays_with Levels order made none Natural other e = e
stays_with Levels order made none (By Degree) other e = e
stays_with Levels order made none (By Cardinality) other e = e
stays_with Levels order made none (By Levels) other e = absurd (no_order none e)
stays_with Levels order made none (By Profile) other e = e
stays_with Profile order made none Natural other e = e
stays_with Profile order made none (By Degree) other e = e
stays_with Profile order made none (By Cardinality) other e = e
stays_with Profile order made none (By Levels) other e = e
stays_with Profile order made none (By Profile) other e = absurd (no_order none e)

vars_with : (method : Method) (order : List ℕ) (made : Made) → (with_order method order made).vars ≡ made.vars
vars_with Degree order made = refl
vars_with Cardinality order made = refl
vars_with Levels order made = refl
vars_with Profile order made = refl

pub more_with : (method : Method) (order : List ℕ) (made : Made) → is_some (order_of (By method) made) ≡ false
    → MakesMore made (with_order method order made)
more_with method order made none = record { vars = vars_with method order made; stays = stays_with method order made none }

pub made_with : (method : Method) (order : List ℕ) (made : Made) → IsMade (By method) (with_order method order made)
made_with Degree order made = refl
made_with Cardinality order made = refl
made_with Levels order made = refl
made_with Profile order made = refl
