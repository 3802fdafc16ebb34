-- What `put_long` goes by.
use Rattle.proof_trim.proofs.decimals.+put_long.Given as goal

-- the number falls from call to call
abbrev pub decreases-put_long : goal.decreases-put_long
decreases-put_long l = l.number
