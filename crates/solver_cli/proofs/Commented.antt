-- Lines of comment, one behind another, and what is told by them.
use Rattle.std.proofs.Common.{◌≡◌, ℕ, Bool, true, false, List, [], ◌∷◌, ◌++◌, refl, sym, ap, ◌∙◌, subst, Ok, Err, IsTrue, arith}
use Rattle.std.proofs.Common.{append_assoc, append-nil, true≢false}
use Rattle.std.specs.Prelude.{Result, OnErr, OnOk, is_ok, ⊤, ◌==◌, if◌then◌else◌}
use Rattle.arrayvec.specs.ArrayVec.{ArrayVec}
use Rattle.host_io.specs.Channel.{Channel}
use Rattle.host_io.specs.declared.source.Failed.{Failed}
use Rattle.drat_proof.specs.TwoRoles.{added}
use Rattle.solver_cli.specs.Comments.{Place, AtStart, BehindC, Within, Wrong, behind as place_behind, behind_all, is_start, is_within}
use Rattle.solver_cli.specs.Comments.{is_right}
use Rattle.solver_cli.specs.Comments.{are_comments, are_comments_so_far, is_begun_comment}
use Rattle.solver_cli.specs.Phases.{PutsText}
use Rattle.solver_cli.specs.Progress.{Comments, Notes, IsTold}
use Rattle.solver_cli.proofs.Facts.{behind, grown_by}

both : (place : Place) (xs ys : List ℕ) → behind_all place (xs ++ ys) ≡ behind_all (behind_all place xs) ys
both place [] ys = refl
both place (x ∷ xs) ys = both (place_behind place x) xs ys

still_wrong : (xs : List ℕ) → behind_all Wrong xs ≡ Wrong
still_wrong [] = refl
still_wrong (x ∷ xs) = still_wrong xs

at_start : (place : Place) → is_start place ≡ true → place ≡ AtStart
at_start AtStart e = refl
at_start BehindC e = cc
at_start Within e = cc
at_start Wrong e = cc

within : (place : Place) → is_within place ≡ true → place ≡ Within
within AtStart e = cc
within BehindC e = cc
within Within e = refl
within Wrong e = cc

right_before : (place : Place) (ys : List ℕ) → is_right (behind_all place ys) ≡ true → is_right place ≡ true
right_before AtStart ys e = refl
right_before BehindC ys e = refl
right_before Within ys e = refl
right_before Wrong ys e = sym (ap is_right (still_wrong ys)) ∙ e

-- a line of comment goes on with a byte that isn't a line feed, and ends with one
pub goes_on : (bytes : List ℕ) (byte : ℕ) → is_begun_comment bytes ≡ true → (byte == 10) ≡ false → is_begun_comment (bytes ++ byte ∷ []) ≡ true
goes_on bytes byte begun other =
    let is : behind_all AtStart bytes ≡ Within = within (behind_all AtStart bytes) begun in
    ap is_within (both AtStart bytes (byte ∷ []) ∙ ap (λ (p : Place). behind_all p (byte ∷ [])) is)
    ∙ ap (λ (b : Bool). is_within (if b then AtStart else Within)) other

pub ends : (bytes : List ℕ) → is_begun_comment bytes ≡ true → are_comments (bytes ++ 10 ∷ []) ≡ true
ends bytes begun =
    let is : behind_all AtStart bytes ≡ Within = within (behind_all AtStart bytes) begun in
    ap is_start (both AtStart bytes (10 ∷ []) ∙ ap (λ (p : Place). behind_all p (10 ∷ [])) is)

-- whole lines are lines so far, and so is each front of lines
whole_so_far : (bytes : List ℕ) → are_comments bytes ≡ true → are_comments_so_far bytes ≡ true
whole_so_far bytes whole = ap is_right (at_start (behind_all AtStart bytes) whole)

front_so_far : (part rest : List ℕ) → are_comments (part ++ rest) ≡ true → are_comments_so_far part ≡ true
front_so_far part rest whole =
    right_before (behind_all AtStart part) rest (ap is_right (sym (both AtStart part rest)) ∙ whole_so_far (part ++ rest) whole)

-- lines behind whole lines
lines_behind : (xs ys : List ℕ) → are_comments xs ≡ true → behind_all AtStart (xs ++ ys) ≡ behind_all AtStart ys
lines_behind xs ys whole = both AtStart xs ys ∙ ap (λ (p : Place). behind_all p ys) (at_start (behind_all AtStart xs) whole)

-- what was written in two steps
added_twice : (a b c : Channel) → b.written ≡ a.written ++ added a b → c.written ≡ b.written ++ added b c → c.written ≡ a.written
    ++ (added a b ++ added b c)
added_twice a b c first second = second ∙ ap (λ (l : List ℕ). l ++ added b c) first ∙ append_assoc a.written (added a b) (added b c)

-- nothing was told
pub none_told : (tells : Bool) (channel : Channel) → Comments true tells channel channel
none_told tells channel =
    let none : added channel channel ≡ [] = behind channel channel [] (sym (append-nil channel.written)) in
    record {
      written = λ t. grown_by channel channel [] (sym (append-nil channel.written));
      so_far = λ t. ap are_comments_so_far none;
      whole = λ t tell. ap are_comments none;
      broken = λ f. cc;
      name = refl;
      faults = omega arith;
    }

-- more was told
pub told_more : {after tells : Bool} {a b c : Channel} → Comments true tells a b → Comments after tells b c → Comments after tells a c
told_more {tells = tells} {a = a} {b = b} {c = c} p q = record {
  written = λ t. grown_by a c (added a b ++ added b c) (grown t);
  so_far = λ t. ap are_comments_so_far (parts t) ∙ ap is_right (lines_behind (added a b) (added b c) (p.whole t refl)) ∙ q.so_far t;
  whole = λ t tell. ap are_comments (parts t) ∙ ap is_start (lines_behind (added a b) (added b c) (p.whole t refl)) ∙ q.whole t tell;
  broken = λ f. let rose = q.broken f in let more = p.faults in omega (arith, rose, more);
  name = q.name ∙ p.name;
  faults = omega (arith, p.faults, q.faults);
} where
  grown : IsTrue tells → c.written ≡ a.written ++ (added a b ++ added b c)
  grown t = added_twice a b c (p.written t) (q.written t)

  parts : IsTrue tells → added a c ≡ added a b ++ added b c
  parts t = behind a c (added a b ++ added b c) (grown t)

pub told_then : {before after tells : Bool} {a b c : Channel} → Comments before tells a b → Notes before after tells b c
    → Comments after tells a c
told_then {before = true} p q = told_more p (q.told refl)
told_then {before = false} {after = after} {tells = tells} {a = a} {b = b} p q =
    let same = q.silent refl in
    subst (λ (c : Channel). Comments after tells a c) (sym same.0) (subst (λ (on : Bool). Comments on tells a b) (sym same.1) p)

-- a line that was put, or a front of it
pub put : {tells : Bool} {old new : Channel} (line : List ℕ) (result : Result ⊤ Failed) → are_comments line ≡ true
    → PutsText tells old new line result → Comments (is_ok result) tells old new
put {old = old} {new = new} line (Ok x) is puts = record {
  written = λ t. grown_by old new line (puts.done t refl);
  so_far = λ t. ap are_comments_so_far (behind old new line (puts.done t refl)) ∙ whole_so_far line is;
  whole = λ t tell. ap are_comments (behind old new line (puts.done t refl)) ∙ is;
  broken = λ f. cc;
  name = puts.only.name;
  faults = puts.only.faults;
}
put {old = old} {new = new} line (Err e) is puts = record {
  written = λ t. let front = puts.front t in grown_by old new front.0 front.2;
  so_far = λ t. let front = puts.front t in
      ap are_comments_so_far (behind old new front.0 front.2)
      ∙ front_so_far front.0 front.1 (ap are_comments (sym front.3) ∙ is);
  whole = λ t tell. cc;
  broken = λ f. puts.fault refl;
  name = puts.only.name;
  faults = puts.only.faults;
}

-- notes, from where progress is told, and from where it isn't
pub notes_told : {after tells : Bool} {old new : Channel} → Comments after tells old new → Notes true after tells old new
notes_told told = record { told = λ _. told; silent = λ f. cc }

pub notes_silent : {tells : Bool} {old new : Channel} → new ≡ old → Notes false false tells old new
notes_silent same = record { told = λ t. cc; silent = λ _. (same, refl) }

pub notes_on : {before after tells : Bool} {old new : Channel} → before ≡ true → Comments after tells old new
    → Notes before after tells old new
notes_on on told = record { told = λ _. told; silent = λ off. absurd (true≢false (sym on ∙ off)) }

-- nothing was told, whatever is asked for
pub untold : (asked : Bool) {tells : Bool} {old new : Channel} → new ≡ old → IsTold asked tells old new
untold true {tells = tells} {old = old} same = (
  true,
  notes_told (subst (λ (c : Channel). Comments true tells old c) (sym same) (none_told tells old)),
)
untold false same = (false, notes_silent same)

-- notes, told of channels that are the same
pub told_between : {asked after tells : Bool} {start old new end : Channel} → old ≡ start → end ≡ new → Notes asked after tells old new
    → IsTold asked tells start end
told_between {asked = asked} {after = after} {tells = tells} {start = start} {new = new} from to notes = (
  after,
  subst (λ (c : Channel). Notes asked after tells start c) (sym to) (subst (λ (c : Channel). Notes asked after tells c new) from notes),
)

-- more notes
pub noted_more : {asked before after tells : Bool} {a b c : Channel} → Notes asked before tells a b → Notes before after tells b c
    → Notes asked after tells a c
noted_more {asked = true} p q = notes_told (told_then (p.told refl) q)
noted_more {asked = false} {after = after} {tells = tells} {b = b} {c = c} p q =
    let first = p.silent refl in
    let second = (subst (λ (on : Bool). Notes on after tells b c) first.1 q).silent refl in
    record { told = λ on. cc; silent = λ _. (second.0 ∙ first.0, second.1) }

-- notes, and further ones
pub notes_then : {asked mid tells : Bool} {a b c : Channel} → Notes asked mid tells a b → IsTold mid tells b c → IsTold asked tells a c
notes_then {asked = true} p q = (q.0, notes_told (told_then (p.told refl) q.1))
notes_then {asked = false} {mid = mid} {tells = tells} {a = a} {b = b} {c = c} p q =
    let first = p.silent refl in
    let second = (subst (λ (on : Bool). Notes on q.0 tells b c) first.1 q.1).silent refl in
    (false, notes_silent (second.0 ∙ first.0))

-- the name stays
pub told_name : {asked tells : Bool} {old new : Channel} → IsTold asked tells old new → new.name ≡ old.name
told_name {asked = true} told = (told.1.told refl).name
told_name {asked = false} told = ap (λ (c : Channel). c.name) (told.1.silent refl).0

-- notes from channels that are the same, and further ones
pub noted_then : {asked mid tells : Bool} {start old new end : Channel} → old ≡ start → Notes asked mid tells old new
    → IsTold mid tells new end → IsTold asked tells start end
noted_then {asked = asked} {mid = mid} {tells = tells} {new = new} from notes more =
    notes_then (subst (λ (c : Channel). Notes asked mid tells c new) from notes) more

pub notes_name : {before after tells : Bool} {old new : Channel} → Notes before after tells old new → new.name ≡ old.name
notes_name {after = after} notes = told_name (after, notes)

-- lines that are told only if they are asked for
pub told_where : {asked is tells : Bool} {old new : Channel} → is ≡ asked → is ≡ true → IsTold true tells old new → IsTold asked tells old new
told_where {tells = tells} {old = old} {new = new} same on told =
    subst (λ (asked : Bool). IsTold asked tells old new) (sym on ∙ same) told

-- lines that were put, or a front of them
pub put_told : {tells : Bool} {old new : Channel} (lines : List ℕ) (result : Result ⊤ Failed) → are_comments lines ≡ true
    → PutsText tells old new lines result → IsTold true tells old new
put_told lines result are puts = (is_ok result, notes_told (put lines result are puts))

-- lines behind which a line was put, or for which there was no room
pub line_pushed : {T E : Type 0} (old new : ArrayVec ℕ) (line : List ℕ) (result : Result T E) → OnOk result (new.items ≡ old.items ++ line)
    → OnErr result (new ≡ old) → are_comments old.items ≡ true → are_comments line ≡ true → are_comments new.items ≡ true
line_pushed old new line (Ok x) more _ whole is = ap are_comments more ∙ ap is_start (lines_behind old.items line whole) ∙ is
line_pushed old new line (Err e) _ same whole is = ap (λ (lines : ArrayVec ℕ). are_comments lines.items) same ∙ whole
