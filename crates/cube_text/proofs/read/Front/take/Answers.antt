-- What is left to show of `Front::take`.
use Rattle.std.proofs.Common.{◌≡◌, ◌∙◌, ℕ, ℤ, Some, sym, subst, w64, to_z, of_z}
use Rattle.std.specs.Option.{option_map}
use Rattle.cnf_base.specs.Number.{signed_number}
use Rattle.dimacs_reader.specs.Cnf.{with_number}
use Rattle.text_scan.specs.Capped.{capped_ℤ}
use Rattle.cube_text.specs.CubeReader.{Takes}
use Rattle.cube_text.specs.CubeText.{offence_of}
use Rattle.cube_text.proofs.Uncut.{read_back, takes_read}
use Rattle.cube_text.proofs.read.Front.take.Goals as goal

pub returns-in-Some-clause-takes : goal.returns-in-Some-clause-takes
returns-in-Some-clause-takes c =
    let is : option_map capped_ℤ (signed_number c.args.token.now.bytes) ≡ Some c.in-Some.number =
    sym c.signed_number.ensures.value ∙ c.in-Some.is in
    let back : to_z w64 (of_z w64 c.in-Some.number) ≡ c.in-Some.number = read_back c.in-Some.number c.in-Some.ensures.bound in
    takes_read c.take_number.result (signed_number c.args.token.now.bytes) c.in-Some.number c.args.token.now.line c.args.self.now
    c.take_number.new.self c.take_number.ensures.few_vars is
    (subst (λ (number : ℤ). Takes c.take_number.result (offence_of (Some number) c.args.self.now) c.args.token.now.line
    (with_number number c.args.self.now) c.take_number.new.self) back
    (subst (λ (line : ℕ). Takes c.take_number.result (offence_of (Some (to_z w64 (of_z w64 c.in-Some.number))) c.args.self.now) line
    (with_number (to_z w64 (of_z w64 c.in-Some.number)) c.args.self.now) c.take_number.new.self) c.line-in-Some.ensures
    c.take_number.ensures.takes))
