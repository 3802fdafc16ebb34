-- A lent sink, and who lent it.
use Rattle.std.proofs.Common.{◌≡◌, ℕ, zero, List, [], ◌∷◌, ap}
use Rattle.host_io.specs.Beside.{Beside, beside_lent}

first_lender : List ℕ → ℕ
first_lender [] = zero
first_lender (lender ∷ _) = lender

-- what is beside a lent sink names who lent it
pub lender_kept : {one other : ℕ} {inner rest : Beside} → beside_lent one inner ≡ beside_lent other rest → one ≡ other
unfolding first_lender
lender_kept same = ap (λ (b : Beside). first_lender b.lenders) same

other_lenders : List ℕ → List ℕ
other_lenders [] = []
other_lenders (_ ∷ lenders) = lenders

-- and what is beside that sink itself
pub inner_kept : {one other : ℕ} {inner rest : Beside} → beside_lent one inner ≡ beside_lent other rest → inner ≡ rest
unfolding other_lenders
inner_kept same = ap (λ (b : Beside). record { lenders = other_lenders b.lenders; rest = b.rest }) same
