-- Small facts of answers and justifications.
use Rattle.std.proofs.Common.{◌≡◌, ℕ, Bool, true, false, None, Some, Result, Ok, Err, refl}
use Rattle.std.specs.Prelude.{IsErrAnd}
use Rattle.node_table.specs.declared.error.TableError.{TableError}
use Rattle.node_table.specs.declared.node.Node.{Node}
use Rattle.node_table.specs.declared.node.Justification.{Justification}
use Rattle.node_table.specs.declared.node.Justification.TheVariants.{Trivial, Clause}
use Rattle.operations.specs.Accounts.{found_just}

pub not_both : (b : Bool) → b ≡ true → b ≡ false → ⊥
not_both b holds fails = cc

pub same_some : {X : Type 0} (x y : X) → Some x ≡ Some y → x ≡ y
same_some x y is = cc

pub no_found : {X : Type 0} (x : X) → None ≡ Some x → ⊥
no_found x is = cc

pub no_clause : (id : ℕ) → Trivial ≡ Clause id → ⊥
no_clause id is = cc

-- an error gives no clause
pub failed_just : (r : Result (Node × Justification) TableError) (came : TableError) → IsErrAnd r (λ e. e ≡ came) → found_just r ≡ Trivial
failed_just (Ok found) came is = absurd is
failed_just (Err e) came is = refl
