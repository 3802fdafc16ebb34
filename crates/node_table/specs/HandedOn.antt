-- Laws of results and of `?`: no answer is an error, and an error that is handed on is the one that came.
use Rattle.std.proofs.Common.{◌≡◌, ◌∙◌, Result, Ok, Err, ap, sym, subst}
use Rattle.std.specs.Prelude.{IsErrAnd, IfErr, IfOk}

pub no_error : {T E : Type 0} {x : T} {cause : E} → ◌≡◌ {A = Result T E} (Ok x) (Err cause) → ⊥
no_error is = cc

pub same_answer : {T E : Type 0} {x y : T} → ◌≡◌ {A = Result T E} (Ok x) (Ok y) → x ≡ y
same_answer is = cc

pub same_error : {T E : Type 0} {came cause : E} → ◌≡◌ {A = Result T E} (Err came) (Err cause) → came ≡ cause
same_error is = cc

pub handed_on : {T E : Type 0} (r : Result T E) (came cause : E) → IsErrAnd r (λ e. e ≡ came) → came ≡ cause → r ≡ Err cause
handed_on (Ok x) came cause is because = absurd is
handed_on (Err e) came cause is because = ap Err (is ∙ because)

pub came_from : {T E : Type 0} (r : Result T E) (came cause : E) → IsErrAnd r (λ e. e ≡ came) → r ≡ Err cause → came ≡ cause
came_from (Ok x) came cause is because = absurd is
came_from (Err e) came cause is because = sym is ∙ same_error because

-- so it has another cause where the result has, and the result is no answer
pub other_cause : {T U E : Type 0} (r : Result T E) (came cause : E) → IsErrAnd r (λ e. e ≡ came) → (r ≡ Err cause → ⊥)
    → ◌≡◌ {A = Result U E} (Err came) (Err cause) → ⊥
other_cause r came cause given other is = other (handed_on r came cause given (same_error is))

pub no_answer : {T E : Type 0} (r : Result T E) (came : E) (P : T → Type 0) → IsErrAnd r (λ e. e ≡ came) → IfOk r P
no_answer (Ok x) came P is = absurd is
no_answer (Err e) came P is = tt

-- what is said of the error that came is said of the one that is handed on
pub if_handed : {T E : Type 0} (r : Result T E) (came : E) (P : E → Type 0) → IsErrAnd r (λ e. e ≡ came) → P came → IfErr r P
if_handed (Ok x) came P is p = absurd is
if_handed (Err e) came P is p = subst P (sym is) p

pub no_ok : {T E : Type 0} (r : Result T E) (came : E) (x : T) → IsErrAnd r (λ e. e ≡ came) → r ≡ Ok x → ⊥
no_ok (Ok y) came x is same = absurd is
no_ok (Err e) came x is same = no_error (sym same)
