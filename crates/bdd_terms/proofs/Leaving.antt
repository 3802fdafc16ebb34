-- What a call leaves of a table, whatever it answers.
use Rattle.std.proofs.Common.{◌≡◌, ◌≢◌, ℕ, zero, suc, ◌-◌, ◌≤◌, Option, None, Some, Result, Ok, Err, refl, sym, ap, ◌∙◌, subst, arith}
use Rattle.std.specs.Prelude.{IsErrAnd}
use Rattle.clause_ledger.specs.Told.{told_origin}
use Rattle.node_table.specs.declared.error.TableError.{TableError}
use Rattle.node_table.specs.declared.error.TableError.TheVariants.{NodeLimit, IdLimit, OutOfMemory, WriteFault}
use Rattle.node_table.specs.Table.{TableState}
use Rattle.node_table.specs.Progress.{Continues, Leaves, Steps, StepsOrRefutes, error_of}
use Rattle.operations.specs.Budget.{most_additions}

-- an error that is handed on is the one that came
pub error_handed : {T E : Type 0} (r : Result T E) (came : E) → IsErrAnd r (λ e. e ≡ came) → error_of r ≡ Some came
error_handed (Ok x) came is = absurd is
error_handed (Err e) came is = ap Some is

pub steps_handed : {S T : Type 0} (old new : TableState S) (justified : ℕ) (r : Result T TableError)
    (came : TableError) → IsErrAnd r (λ e. e ≡ came)
    → Steps old new justified (Some came) → Steps old new justified (error_of r)
steps_handed old new justified r came is steps = subst
    (λ (error : Option TableError). Steps old new justified error) (sym (error_handed r came is)) steps

pub refutes_handed : {S T : Type 0} (old new : TableState S) (justified : ℕ)
    (r : Result T TableError) (came : TableError) → IsErrAnd r (λ e. e ≡ came)
    → StepsOrRefutes old new justified (Some came) → StepsOrRefutes old new justified (error_of r)
refutes_handed old new justified r came is steps = subst
    (λ (error : Option TableError). StepsOrRefutes old new justified error) (sym (error_handed r came is)) steps

-- unless a write failed, the call went on
pub went_on : {S T : Type 0} (old new : TableState S) (r : Result T TableError)
    → Leaves old new (error_of r) → r ≢ Err WriteFault
    → Continues old new
went_on old new (Ok x) leaves whole = leaves
went_on old new (Err NodeLimit) leaves whole = leaves.0
went_on old new (Err IdLimit) leaves whole = leaves.0
went_on old new (Err OutOfMemory) leaves whole = leaves
went_on old new (Err WriteFault) leaves whole = absurd (whole refl)

-- the limit of nodes leaves all in step
pub limit_left : {S : Type 0} (old new : TableState S) (came : TableError) → came ≡ NodeLimit
    → Leaves old new (Some came)
    → Leaves old new (Some NodeLimit)
limit_left old new came is leaves = subst (λ (e : TableError). Leaves old new (Some e)) is leaves

-- a conjunction of few levels adds no more than one of all
no_less_at : (few more : ℕ) → few ≤ more → most_additions few ≤ most_additions more
no_less_at zero more small = omega arith
no_less_at (suc few) zero small = absurd (omega (arith, small))
no_less_at (suc few) (suc more) small = let rest = no_less_at few more (omega (arith, small)) in omega (arith, rest)

pub within_most : (levels above : ℕ) → most_additions (levels - above) ≤ most_additions levels
within_most levels above = no_less_at (levels - above) levels (omega arith)

-- the limit of nodes is no failed write, and leaves all in step
no_fault : ◌≡◌ {A = TableError} NodeLimit WriteFault → ⊥
no_fault is = cc

same_cause : (one other : TableError) → ◌≡◌ {A = Option TableError} (Some one) (Some other) → one ≡ other
same_cause one other is = cc

pub limit_whole : (came : TableError) → came ≡ NodeLimit → Some came ≢ Some WriteFault
limit_whole came limit is = no_fault (sym limit ∙ same_cause came WriteFault is)

-- however a call ends, the ledger is over the same sink and formula
pub origin_left : {S : Type 0} (old new : TableState S) (error : Option TableError) → Leaves old new error
    → new.book.origin ≡ old.book.origin
origin_left old new None leaves = told_origin leaves.told
origin_left old new (Some NodeLimit) leaves = told_origin leaves.0.told
origin_left old new (Some IdLimit) leaves = told_origin leaves.0.told
origin_left old new (Some OutOfMemory) leaves = told_origin leaves.told
origin_left old new (Some WriteFault) leaves = told_origin leaves.told
