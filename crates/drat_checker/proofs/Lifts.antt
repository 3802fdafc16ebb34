-- What follows from a clause on an answer, for the same answer.
use Rattle.std.proofs.Common.{◌≡◌, false, refl, subst, is_some, Option, None, Some, Result, Ok, Err, OnErr, OnOk, IfOk, IfNone, IfSome}

pub if-ok : {T E : Type 0} {P Q : T → Type 0} (r : Result T E) → ((x : T) → P x → Q x) → IfOk r P → IfOk r Q
if-ok (Ok x) f h = f x h
if-ok (Err e) f h = tt

pub on-ok : {T E : Type 0} {P Q : Type 0} (r : Result T E) → (P → Q) → OnOk r P → OnOk r Q
on-ok (Ok x) f h = f h
on-ok (Err e) f h = tt

pub if-some-any : {T : Type 0} {P : T → Type 0} (o : Option T) → ((x : T) → P x) → IfSome o P
if-some-any None f = tt
if-some-any (Some x) f = f x

pub if-some-at : {T : Type 0} (P : T → Type 0) (o : Option T) (x : T) → o ≡ Some x → IfSome o P → P x
if-some-at P None x e h = cc
if-some-at P (Some y) x e h = let same : y ≡ x = cc in subst P same h

pub some-each : {T : Type 0} {P Q : T → Type 0} (o : Option T) → ((x : T) → P x → Q x) → IfSome o P → IfSome o Q
some-each None f h = tt
some-each (Some x) f h = f x h

pub none-of : {T : Type 0} (o : Option T) → is_some o ≡ false → o ≡ None
none-of None e = refl
none-of (Some x) e = cc

pub if-none-each : {T : Type 0} {P Q : Type 0} (o : Option T) → (P → Q) → IfNone o P → IfNone o Q
if-none-each None f h = f h
if-none-each (Some x) f h = tt

pub by-result : {T E : Type 0} {P Q R : Type 0} (r : Result T E) → (P → R) → (Q → R) → OnOk r P → OnErr r Q → R
by-result (Ok x) f g h k = f h
by-result (Err e) f g h k = g k

pub if-ok-given : {T E : Type 0} {A B C : Type 0} {P Q : T → Type 0} (r : Result T E) → (A → B → C → (x : T) → P x → Q x) → OnOk r A
    → OnOk r B → OnOk r C → IfOk r P → IfOk r Q
if-ok-given (Ok x) f a b c h = f a b c x h
if-ok-given (Err e) f a b c h = tt

pub if-ok-by : {T E : Type 0} {A : Type 0} {Q : T → Type 0} (r : Result T E) → (A → (x : T) → Q x) → OnOk r A → IfOk r Q
if-ok-by (Ok x) f a = f a x
if-ok-by (Err e) f a = tt
