-- By the word that changed.
use Rattle.std.proofs.Common.{ℕ, ◌/◌, ◌%◌, ◌||◌, ap, ◌∙◌}
use Rattle.std.specs.Prelude.{nat_eq}
use Rattle.proof_trim.specs.Bits.{is_set}
use Rattle.proof_trim.specs.Numbers.{has, word_at}
use Rattle.proof_trim.proofs.Entered.{bit_set, entered}
use Rattle.proof_trim.proofs.numbers.Numbers.enter.Goals as goal

pub returns : goal.returns
returns c = λ other.
    entered c.get-number.result (word_at c.args.self.now) (word_at c.enter_bit.new.self) c.in_ok-enter_bit.ensures.others
    (λ place. ap (λ (word : ℕ). is_set word place) c.in_ok-enter_bit.ensures.word
    ∙ bit_set (word_at c.args.self.now (c.get-number.result / 64)) (c.get-number.result % 64) place) other
    ∙ ap (λ (n : ℕ). nat_eq other n || has c.args.self.now other) c.get-number.ensures
