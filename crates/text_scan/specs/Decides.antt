-- What the bytes taken from a source decide, whatever follows them.
use Rattle.std.specs.Prelude.{◌≡◌, ℕ, ◌≤◌, List, [], ◌++◌, length, drop, Option, Some, refl}
use Rattle.std.proofs.Common.{sym, ◌∙◌, ap, subst, append_assoc, append-nil, arith}
use Rattle.std.proofs.Math.Seq.{drop-append_seam}
use Rattle.host_io.specs.Channel.{Channel, Left, Held, Unmet, Met, IsOver, Leaves}
pub use Rattle.host_io.specs.Channel.{MayFollow}
use Rattle.host_io.specs.Files.{Files, Texts, Stored, Untold, Missing, Holding, Offers, Agrees}
use Rattle.host_io.specs.Taking.{leaves_none, leaves_then, over_stays}

-- the bytes taken from one moment to another
abbrev pub gained : Channel → Channel → List ℕ
gained old new = drop (length old.taken) new.taken

-- Bytes were taken from the front of what was left, and P holds of them with whatever may follow, and of what
-- follows. So it holds of the whole text, whatever that is, and it was decided by the bytes taken.
pub record Decides (old new : Channel) (P : List ℕ → List ℕ → Type 0) : Type 0 where
  pub taken : new.taken ≡ old.taken ++ gained old new
  pub left : Leaves old.left (gained old new) new.left
  pub holds : (more : List ℕ) → MayFollow new more → P (gained old new ++ more) more

-- nothing but bytes, and maybe faults, came from the source
pub record OnlyReads (old new : Channel) : Type 0 where
  pub written : new.written ≡ old.written
  pub flushed : new.flushed ≡ old.flushed
  pub name : new.name ≡ old.name
  pub faults : old.faults ≤ new.faults

-- The laws by which a reader joins its calls.

pub gained-none : (channel : Channel) → gained channel channel ≡ []
gained-none channel = ap (drop (length channel.taken)) (sym (append-nil channel.taken)) ∙ drop-append_seam channel.taken []

pub OnlyReads-then : {a b c : Channel} → OnlyReads a b → OnlyReads b c → OnlyReads a c
OnlyReads-then p q = record {
  written = q.written ∙ p.written;
  flushed = q.flushed ∙ p.flushed;
  name = q.name ∙ p.name;
  faults = omega (arith, p.faults, q.faults);
}

-- by the bytes that were taken
pub Decides-by : (old new : Channel) (P : List ℕ → List ℕ → Type 0) (bytes : List ℕ) → new.taken ≡ old.taken ++ bytes
    → Leaves old.left bytes new.left → ((more : List ℕ) → MayFollow new more → P (bytes ++ more) more) → Decides old new P
Decides-by old new P bytes taken left holds =
    let same : gained old new ≡ bytes = ap (drop (length old.taken)) taken ∙ drop-append_seam old.taken bytes in
    record {
      taken = taken ∙ ap (λ (l : List ℕ). old.taken ++ l) (sym same);
      left = subst (λ (l : List ℕ). Leaves old.left l new.left) (sym same) left;
      holds = λ more may. subst (λ (l : List ℕ). P (l ++ more) more) (sym same) (holds more may);
    }

-- nothing was taken
pub Decides-none : (channel : Channel) (P : List ℕ → List ℕ → Type 0) → ((more : List ℕ) → P more more) → Decides channel channel P
Decides-none channel P holds = Decides-by channel channel P [] (sym (append-nil channel.taken)) (leaves_none channel.left) (λ more _. holds more)

-- what follows from it
pub Decides-map : {old new : Channel} {P : List ℕ → List ℕ → Type 0} (Q : List ℕ → List ℕ → Type 0) → Decides old new P
    → ((bytes more : List ℕ) → P bytes more → Q bytes more) → Decides old new Q
Decides-map {old} {new} Q decides gives = record {
  taken = decides.taken;
  left = decides.left;
  holds = λ more may. gives (gained old new ++ more) more (decides.holds more may);
}

-- one call after another: what the first says of all bytes and of those that follow it, and the second of those
pub Decides-then : {a b c : Channel} {P Q : List ℕ → List ℕ → Type 0} (R : List ℕ → List ℕ → Type 0) → Decides a b P → Decides b c Q
    → ((bytes middle more : List ℕ) → P bytes middle → Q middle more → R bytes more) → Decides a c R
Decides-then {a} {b} {c} {P} {Q} R first second joins =
    let g : List ℕ = gained a b in
    let h : List ℕ = gained b c in
    Decides-by a c R (g ++ h)
    (second.taken ∙ ap (λ (l : List ℕ). l ++ h) first.taken ∙ append_assoc a.taken g h)
    (leaves_then a.left b.left c.left g h first.left second.left)
    (λ more may.
    let follows : MayFollow b (h ++ more) = λ none.
    let over : (h ≡ []) × IsOver c.left = over_stays b.left c.left h none second.left in
    ap (λ (l : List ℕ). l ++ more) over.0 ∙ may over.1
    in
    subst (λ (l : List ℕ). R l more) (sym (append_assoc g h more))
    (joins (g ++ (h ++ more)) (h ++ more) more (first.holds (h ++ more) follows) (second.holds more may)))

-- the bytes of one call after another
pub gained-then : {a b c : Channel} {P Q : List ℕ → List ℕ → Type 0} → Decides a b P → Decides b c Q → gained a c ≡ gained a b ++ gained b c
gained-then {a} {b} {c} first second =
    ap (drop (length a.taken)) (second.taken ∙ ap (λ (l : List ℕ). l ++ gained b c) first.taken
    ∙ append_assoc a.taken (gained a b) (gained b c))
    ∙ drop-append_seam a.taken (gained a b ++ gained b c)

-- what is said of the bytes of the first call with any behind them, and of those behind them
pub front-then : {T : Type 0} {a b c : Channel} {P Q : List ℕ → List ℕ → Type 0} (f g h : List ℕ → T) → Decides a b P → Decides b c Q
    → ((more : List ℕ) → f (gained a b ++ more) ≡ g more) → ((more : List ℕ) → g (gained b c ++ more) ≡ h more) → (more : List ℕ)
    → f (gained a c ++ more) ≡ h more
front-then {T} {a} {b} {c} f g h first second old new more =
    ap (λ (l : List ℕ). f (l ++ more)) (gained-then first second) ∙ ap f (append_assoc (gained a b) (gained b c) more)
    ∙ old (gained b c ++ more) ∙ new more

-- it holds of the bytes taken
pub Decides-taken : {old new : Channel} {P : List ℕ → List ℕ → Type 0} → Decides old new P → P (gained old new) []
Decides-taken {old} {new} {P} decides = subst (λ (l : List ℕ). P l []) (append-nil (gained old new)) (decides.holds [] (λ _. refl))

-- The contents of files.

-- Where a role has the name of this file, what the file holds agrees with what the host tells of it, and with the bytes that the
-- role took since a moment.
abbrev pub Fits : Files → Channel → Channel → List ℕ → Texts → Type 0
Fits told old new file texts = new.name ≡ Some file → Agrees (told file) new (gained old new) (texts file)

held_at : (bytes front : List ℕ) (left : Left) → Leaves (Held bytes) front left
    → (more : List ℕ) × (IsOver left → more ≡ []) × (bytes ≡ front ++ more)
held_at bytes front (Held rest) taken = (rest, λ over. over, taken)
held_at bytes front Unmet taken = absurd taken
held_at bytes front Met taken = absurd taken

-- what is held is what was taken, and more that may follow it
pub held_behind : (bytes : List ℕ) (new : Channel) (front : List ℕ) → Leaves (Held bytes) front new.left
    → (more : List ℕ) × MayFollow new more × (bytes ≡ front ++ more)
held_behind bytes new front taken = held_at bytes front new.left taken

-- So the contents of a file that was opened and read are what was taken of it, and more that may follow.
pub agreed_text : (told : Stored) (opened new : Channel) (text : Option (List ℕ)) → Offers told opened.left
    → Leaves opened.left (gained opened new) new.left → Agrees told new (gained opened new) text
    → (more : List ℕ) × MayFollow new more × (text ≡ Some (gained opened new ++ more))
agreed_text Untold opened new text offers taken agrees = agrees
agreed_text Missing opened new text offers taken agrees = absurd offers
agreed_text (Holding bytes) opened new text offers taken agrees =
    let found = held_behind bytes new (gained opened new)
    (subst (λ (left : Left). Leaves left (gained opened new) new.left) offers taken) in
    (found.0, found.1, agrees ∙ ap Some found.2)
