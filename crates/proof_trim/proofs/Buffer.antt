-- What a buffer holds, and a number's text behind it.
use Rattle.std.proofs.Common.{◌≡◌, ℕ, ◌≤◌, Bool, true, false, List, [], ◌∷◌, ◌++◌, length, take, refl, ap, ◌∙◌, arith}
use Rattle.std.specs.Prelude.{decimal, if◌then◌else◌}
use Rattle.std.proofs.lemmas.List.{length-take}
use Rattle.lrat_write.specs.LineText.{lead, led_number}
use Rattle.proof_trim.proofs.Pairs.{behind}

pub held_len : (len : ℕ) (bytes held : List ℕ) → take len bytes ≡ held → len ≤ 4096 → length bytes ≡ 4096 → length held ≡ len
held_len len bytes held is fits long =
    let same : length (take len bytes) ≡ length held = ap length is in
    omega (arith, same, length-take len bytes)

-- a number behind a space, and behind a minus sign where it is negative
lead_by : (minus : Bool) → 32 ∷ (if minus then 45 ∷ [] else []) ≡ lead minus
lead_by true = refl
lead_by false = refl

pub led : (held space sign after : List ℕ) (minus : Bool) (number : ℕ) → space ≡ held ++ 32 ∷ []
    → sign ≡ space ++ (if minus then 45 ∷ [] else []) → after ≡ sign ++ decimal number → after ≡ held ++ led_number minus number
led held space sign after minus number first second third =
    behind held sign (lead minus) (decimal number) after
    (behind held space (32 ∷ []) (if minus then 45 ∷ [] else []) sign first second ∙ ap (λ (l : List ℕ). held ++ l) (lead_by minus)) third
