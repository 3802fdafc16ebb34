-- How reads of a stream follow one another: what they take joins, and behind the end nothing comes.
use Rattle.std.specs.Prelude.{◌≡◌, ℕ, List, [], ◌∷◌, ◌++◌, refl}
use Rattle.std.proofs.Common.{sym, ◌∙◌, ap, append_assoc}
use Rattle.host_io.specs.Channel.{Left, Held, Unmet, Met, IsOver, Leaves}

-- nothing was taken
pub leaves_none : (left : Left) → Leaves left [] left
leaves_none (Held bytes) = refl
leaves_none Unmet = tt
leaves_none Met = refl

-- one read after another
pub leaves_then : (a b c : Left) (front behind : List ℕ) → Leaves a front b → Leaves b behind c → Leaves a (front ++ behind) c
leaves_then (Held all) (Held rest) (Held last) front behind p q =
    p ∙ ap (λ (l : List ℕ). front ++ l) q ∙ sym (append_assoc front behind last)
leaves_then (Held all) (Held rest) Unmet front behind p q = q
leaves_then (Held all) (Held rest) Met front behind p q = q
leaves_then (Held all) Unmet c front behind p q = absurd p
leaves_then (Held all) Met c front behind p q = absurd p
leaves_then Unmet (Held rest) c front behind p q = absurd p
leaves_then Unmet Unmet (Held last) front behind p q = q
leaves_then Unmet Unmet Unmet front behind p q = tt
leaves_then Unmet Unmet Met front behind p q = tt
leaves_then Unmet Met (Held last) front behind p q = q
leaves_then Unmet Met Unmet front behind p q = absurd q
leaves_then Unmet Met Met front behind p q = tt
leaves_then Met (Held rest) c front behind p q = absurd p
leaves_then Met Unmet c front behind p q = absurd p
leaves_then Met Met (Held last) front behind p q = q
leaves_then Met Met Unmet front behind p q = q
leaves_then Met Met Met front behind p q = ap (λ (l : List ℕ). l ++ behind) p ∙ q

front_nil : (xs ys : List ℕ) → xs ++ ys ≡ [] → xs ≡ []
front_nil [] ys e = refl
front_nil (x ∷ xs) ys e = cc

back_nil : (xs ys : List ℕ) → xs ++ ys ≡ [] → ys ≡ []
back_nil [] ys e = e
back_nil (x ∷ xs) ys e = cc

-- where nothing was left, nothing was taken, and nothing is left
pub over_stays : (a b : Left) (gained : List ℕ) → IsOver a → Leaves a gained b → (gained ≡ []) × IsOver b
over_stays (Held all) (Held rest) gained over p = (front_nil gained rest (sym p ∙ over), back_nil gained rest (sym p ∙ over))
over_stays (Held all) Unmet gained over p = absurd p
over_stays (Held all) Met gained over p = absurd p
over_stays Unmet b gained over p = absurd over
over_stays Met (Held rest) gained over p = absurd p
over_stays Met Unmet gained over p = absurd p
over_stays Met Met gained over p = (p, tt)
