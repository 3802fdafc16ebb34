-- What adding a file does to the files of a host in memory.
use Rattle.std.proofs.Common.{◌≡◌, ◌≢◌, ℕ, true, false, List, ◌∷◌, Option, None, refl, sym, ◌∙◌, subst}
use Rattle.std.specs.Str.{bytes_eq}
use Rattle.std.proofs.lemmas.Slice.Eq.{bytes_eq-Decides}
use Rattle.host_io.specs.declared.role.Role.TheVariants.{ProofOut, Made}
use Rattle.host_io.specs.Channel.{Channel}
use Rattle.host_io.specs.Memory.{Memory, channel_of, files_of, stored, created, IsUnnamed, AddsFile}

-- without a name there is no created file
uncreated : (channel : Channel) (file : List ℕ) (rest : Option (List ℕ)) → channel.name ≡ None → created channel file rest ≡ rest
uncreated channel file rest none = rw none refl

unequal : (a b : List ℕ) → a ≢ b → bytes_eq a b ≡ false
unequal a b n =
    elim (bytes_eq a b) as (λ t. bytes_eq a b ≡ t → t ≡ false) [
      | true ↦ λ h. absurd (n ((bytes_eq-Decides a b).0 h))
      | false ↦ λ _. refl
    ] refl

-- where no role has a name, the files are those that were added
files_unnamed : (memory : Memory) → IsUnnamed memory → (file : List ℕ) → files_of memory file ≡ stored memory.files file
files_unnamed memory unnamed file =
    uncreated (channel_of memory Made) file _ (unnamed Made) ∙ uncreated (channel_of memory ProofOut) file _ (unnamed ProofOut)

pub adds_file : (streams : List Channel) (files : List (List ℕ × List ℕ)) (name bytes : List ℕ)
    → IsUnnamed (record { streams = streams; files = files }) → AddsFile (record { streams = streams; files = files })
    (record { streams = streams; files = (name, bytes) ∷ files }) name bytes
adds_file streams files name bytes unnamed =
    let old : Memory = record { streams = streams; files = files } in
    let new : Memory = record { streams = streams; files = (name, bytes) ∷ files } in
    let same : bytes_eq name name ≡ true = (bytes_eq-Decides name name).1 refl in
    record {
      added = files_unnamed new unnamed name ∙ rw same refl;
      others = λ file n. files_unnamed new unnamed file ∙ rw (unequal name file n) (sym (files_unnamed old unnamed file));
      channels = λ role. refl;
    }

-- the same, of a host that is seen as its parts
pub adds_front : (memory : Memory) (streams : List Channel) (files new_files : List (List ℕ × List ℕ)) (own own_bytes name bytes : List ℕ)
    → record { streams = streams; files = files } ≡ memory → new_files ≡ (own, own_bytes) ∷ files → own ≡ name → own_bytes ≡ bytes
    → IsUnnamed memory → AddsFile memory (record { streams = streams; files = new_files }) name bytes
adds_front memory streams files new_files own own_bytes name bytes seen front name_is bytes_is unnamed =
    let unnamed_parts : IsUnnamed (record { streams = streams; files = files }) = subst IsUnnamed (sym seen) unnamed in
    subst (λ m. AddsFile m (record { streams = streams; files = new_files }) name bytes) seen (
    rw (front, name_is, bytes_is) (adds_file streams files name bytes unnamed_parts)
    )
