-- Lines of comment: each begins with `c ` and ends with a line feed.
use Rattle.std.specs.Prelude.{ℕ, Bool, true, false, List, [], ◌∷◌, ◌==◌, if◌then◌else◌}

-- Where such a text is behind some bytes: at the start of a line, behind its `c`, or within it; or no such text begins so.
pub data Place : Type 0 where
  AtStart : Place
  BehindC : Place
  Within : Place
  Wrong : Place

-- the place behind one byte more (99 is `c`, 32 a blank, 10 a line feed)
abbrev pub behind : Place → ℕ → Place
behind AtStart byte = if byte == 99 then BehindC else Wrong
behind BehindC byte = if byte == 32 then Within else Wrong
behind Within byte = if byte == 10 then AtStart else Within
behind Wrong byte = Wrong

abbrev pub behind_all : Place → List ℕ → Place
behind_all place [] = place
behind_all place (byte ∷ bytes) = behind_all (behind place byte) bytes

abbrev pub is_start : Place → Bool
is_start AtStart = true
is_start BehindC = false
is_start Within = false
is_start Wrong = false

abbrev pub is_within : Place → Bool
is_within AtStart = false
is_within BehindC = false
is_within Within = true
is_within Wrong = false

abbrev pub is_right : Place → Bool
is_right AtStart = true
is_right BehindC = true
is_right Within = true
is_right Wrong = false

-- these are lines of comment; they are the beginning of one; they are such lines, the last of which may be cut short
abbrev pub are_comments : List ℕ → Bool
are_comments bytes = is_start (behind_all AtStart bytes)

abbrev pub is_begun_comment : List ℕ → Bool
is_begun_comment bytes = is_within (behind_all AtStart bytes)

abbrev pub are_comments_so_far : List ℕ → Bool
are_comments_so_far bytes = is_right (behind_all AtStart bytes)
