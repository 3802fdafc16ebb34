-- The text of packed steps is that of their lines.
use Rattle.std.proofs.Common.{◌≡◌, ℕ, ◌%◌, ℤ, Bool, true, false, ◌&&◌, List, [], ◌∷◌, ◌++◌, refl, sym, ap, ◌∙◌, arith, append_assoc}
use Rattle.std.specs.Prelude.{suc, pos, negsuc, map, decimal, nat_eq, nat_lt, nat_abs, if◌then◌else◌}
use Rattle.std.specs.Int.{is_negative}
use Rattle.std.proofs.lemmas.Bool.{le-ltb, lt-ltb, ne_eqb}
use Rattle.std.proofs.lemmas.List.{append-nil}
use Rattle.std.proofs.lemmas.Grind.{flat_map-append}
use Rattle.std.specs.List.{flat_map, filter}
use Rattle.cnf_base.specs.declared.list.Group.{Group}
use Rattle.cnf_base.specs.declared.step.Step.{Step}
use Rattle.cnf_base.specs.declared.step.Step.TheVariants.{Add, Delete}
use Rattle.cnf_base.specs.ProofText.{is_empty, line_of_step}
use Rattle.lrat_rules.specs.Derivation.{text_of}
use Rattle.lrat_write.specs.LineText.{spaced_literal, literals_text, ids_text, group_text, hints_text, led_number}
use Rattle.lrat_write.proofs.Lines.{addition_text-line, deletion_text-line}
use Rattle.proof_trim.specs.Trimmed.{deletion_of, is_there, trimmed_steps}
use Rattle.proof_trim.specs.Packed.{code_of, code_text, number_of, is_minus, literal_code, hint_code, group_codes, hint_codes}
use Rattle.proof_trim.specs.Packed.{packed_on, stack_of}
use Rattle.proof_trim.specs.Lines.{text_from, head_of_deletion}
use Rattle.proof_trim.specs.declared.place.Place.TheVariants.{Between, Clause, Hints, Deleted}

-- a code, and what it stands for
pub never_zero : (number : ℕ) (minus : Bool) → nat_eq (code_of number minus) 0 ≡ false
never_zero number true = ne_eqb (code_of number true) 0 (λ e. omega (arith, e))
never_zero number false = ne_eqb (code_of number false) 0 (λ e. omega (arith, e))

pub number_again : (number : ℕ) (minus : Bool) → number_of (code_of number minus) ≡ number
number_again number true = omega arith
number_again number false = omega arith

minus_again : (number : ℕ) (minus : Bool) → is_minus (code_of number minus) ≡ minus
minus_again number true = let even : code_of number true % 2 ≡ 0 = omega arith in ap (λ (n : ℕ). nat_eq n 0) even
minus_again number false = let odd : code_of number false % 2 ≡ 1 = omega arith in ap (λ (n : ℕ). nat_eq n 0) odd

text_again : (number : ℕ) (minus : Bool) → code_text (code_of number minus) ≡ led_number (minus && nat_lt 0 number) number
text_again number minus = λ i. led_number (minus_again number minus i && nat_lt 0 (number_again number minus i)) (number_again number
    minus i)

literal_text : (literal : ℤ) → code_text (literal_code literal) ≡ spaced_literal literal
literal_text (pos n) = text_again n (is_negative (pos n)) ∙ ap (λ (minus : Bool). led_number (minus && nat_lt 0 n) n) (le-ltb n 0 (omega
    arith))
literal_text (negsuc n) = text_again (suc n) true ∙ ap (λ (minus : Bool). led_number (true && minus) (suc n)) (lt-ltb 0 (suc n) (omega
    arith))

hint_text : (id : ℕ) → code_text (hint_code id) ≡ led_number false id
hint_text id = text_again id false

candidate_text : (id : ℕ) → code_text (code_of id true) ≡ led_number (nat_lt 0 id) id
candidate_text id = text_again id true

module _ (there : ℕ → Bool) where
  -- one code more in a clause, and in hints
  in_clause : (number : ℕ) (minus : Bool) (rest : List ℕ) → text_from there Clause (code_of number minus ∷ rest)
      ≡ code_text (code_of number minus) ++ text_from there Clause rest
  in_clause number minus rest = λ i.
      (if never_zero number minus i then 32 ∷ 48 ∷ [] else code_text (code_of number minus))
      ++ text_from there (if never_zero number minus i then Hints else Clause) rest

  in_hints : (number : ℕ) (minus : Bool) (rest : List ℕ) → text_from there Hints (code_of number minus ∷ rest)
      ≡ code_text (code_of number minus) ++ text_from there Hints rest
  in_hints number minus rest = λ i.
      (if never_zero number minus i then 32 ∷ 48 ∷ 10 ∷ [] else code_text (code_of number minus))
      ++ text_from there (if never_zero number minus i then Between else Hints) rest

  clause_text : (clause : List ℤ) (rest : List ℕ) → text_from there Clause (map literal_code clause ++ rest)
      ≡ literals_text clause ++ text_from there Clause rest
  clause_text [] rest = refl
  clause_text (literal ∷ clause) rest =
      in_clause (nat_abs literal) (is_negative literal) (map literal_code clause ++ rest)
      ∙ (λ i. literal_text literal i ++ clause_text clause rest i)
      ∙ sym (append_assoc (spaced_literal literal) (literals_text clause) (text_from there Clause rest))

  ids_text_from : (ids rest : List ℕ) → text_from there Hints (map hint_code ids ++ rest) ≡ ids_text (32 ∷ []) ids ++ text_from there
      Hints rest
  ids_text_from [] rest = refl
  ids_text_from (id ∷ ids) rest =
      in_hints id false (map hint_code ids ++ rest)
      ∙ (λ i. hint_text id i ++ ids_text_from ids rest i)
      ∙ sym (append_assoc (led_number false id) (ids_text (32 ∷ []) ids) (text_from there Hints rest))

  group_text_from : (group : Group) (rest : List ℕ) → text_from there Hints (group_codes group ++ rest)
      ≡ group_text group ++ text_from there Hints rest
  group_text_from group rest =
      in_hints group.id true (map hint_code group.hints ++ rest)
      ∙ (λ i. candidate_text group.id i ++ ids_text_from group.hints rest i)
      ∙ sym (append_assoc (led_number (nat_lt 0 group.id) group.id) (ids_text (32 ∷ []) group.hints) (text_from there Hints rest))

  groups_text_from : (groups : List Group) (rest : List ℕ) → text_from there Hints (flat_map group_codes groups ++ rest)
      ≡ flat_map group_text groups ++ text_from there Hints rest
  groups_text_from [] rest = refl
  groups_text_from (group ∷ groups) rest =
      ap (text_from there Hints) (append_assoc (group_codes group) (flat_map group_codes groups) rest)
      ∙ group_text_from group (flat_map group_codes groups ++ rest)
      ∙ ap (λ (l : List ℕ). group_text group ++ l) (groups_text_from groups rest)
      ∙ sym (append_assoc (group_text group) (flat_map group_text groups) (text_from there Hints rest))

  hints_text_from : (hints : List ℕ) (groups : List Group) (rest : List ℕ) → text_from there Hints (hint_codes hints groups ++ rest)
      ≡ hints_text hints groups ++ text_from there Hints rest
  hints_text_from hints groups rest =
      ap (text_from there Hints) (append_assoc (map hint_code hints) (flat_map group_codes groups) rest)
      ∙ ids_text_from hints (flat_map group_codes groups ++ rest)
      ∙ ap (λ (l : List ℕ). ids_text (32 ∷ []) hints ++ l) (groups_text_from groups rest)
      ∙ sym (append_assoc (ids_text (32 ∷ []) hints) (flat_map group_text groups) (text_from there Hints rest))

  -- the line of an addition
  not_one : (b : Bool) → nat_eq (if b then 2 else 3) 1 ≡ false
  not_one true = refl
  not_one false = refl

  addition_spelled : (id : ℕ) (clause : List ℤ) (hints : List ℕ) (groups : List Group) (rest : List ℕ)
      → text_from there Between (packed_on (Add id clause hints groups) ++ rest)
      ≡ line_of_step (Add id clause hints groups) ++ text_from there Between rest
  addition_spelled id clause hints groups rest =
      let codes : List ℕ = map literal_code clause ++ 0 ∷ (hint_codes hints groups ++ 0 ∷ []) in
      (λ i. (if not_one (is_empty clause) i then [] else decimal id)
      ++ text_from there (if not_one (is_empty clause) i then Deleted id false else Clause) (codes ++ rest))
      ∙ ap (λ (l : List ℕ). decimal id ++ text_from there Clause l)
      (append_assoc (map literal_code clause) (0 ∷ (hint_codes hints groups ++ 0 ∷ [])) rest
      ∙ ap (λ (l : List ℕ). map literal_code clause ++ 0 ∷ l) (append_assoc (hint_codes hints groups) (0 ∷ []) rest))
      ∙ ap (λ (l : List ℕ). decimal id ++ l) (clause_text clause (0 ∷ (hint_codes hints groups ++ 0 ∷ rest))
      ∙ ap (λ (l : List ℕ). literals_text clause ++ (32 ∷ 48 ∷ l)) (hints_text_from hints groups (0 ∷ rest)))
      ∙ sym (gathered (decimal id) (literals_text clause) (hints_text hints groups) (text_from there Between rest))
      ∙ ap (λ (l : List ℕ). l ++ text_from there Between rest) (addition_text-line id clause hints groups)
    where
      gathered : (a b c e : List ℕ) → ((((a ++ b) ++ 32 ∷ 48 ∷ []) ++ c) ++ 32 ∷ 48 ∷ 10 ∷ []) ++ e
          ≡ a ++ (b ++ (32 ∷ 48 ∷ (c ++ (32 ∷ 48 ∷ 10 ∷ e))))
      gathered a b c e = simp append_assoc

  -- a deletion that has begun, and one that hasn't
  more_deleted : (id : ℕ) (ids rest : List ℕ) → text_from there (Deleted id true) (map hint_code ids ++ 0 ∷ rest)
      ≡ ids_text (32 ∷ []) (filter there ids) ++ 32 ∷ 48 ∷ 10 ∷ text_from there Between rest
  more_deleted id [] rest = refl
  more_deleted id (first ∷ ids) rest = by (there first) refl (more_deleted id ids rest) where
    later : List ℕ
    later = map hint_code ids ++ 0 ∷ rest

    here : (b : Bool) → there first ≡ b → text_from there (Deleted id true) (hint_code first ∷ later)
        ≡ (if b then code_text (hint_code first) else []) ++ text_from there (if b then Deleted id true else Deleted id true) later
    here b is =
        let same : there (number_of (hint_code first)) ≡ b = ap there (number_again first false) ∙ is in
        λ i. (if never_zero first false i then 32 ∷ 48 ∷ 10 ∷ [] else if same i then code_text (hint_code first) else [])
        ++ text_from there (if never_zero first false i then Between else if same i then Deleted id true else Deleted id true) later

    by : (b : Bool) → there first ≡ b
        → text_from there (Deleted id true) later ≡ ids_text (32 ∷ []) (filter there ids) ++ 32 ∷ 48 ∷ 10 ∷ text_from there Between rest
        → text_from there (Deleted id true) (hint_code first ∷ later)
        ≡ ids_text (32 ∷ []) (filter there (first ∷ ids)) ++ 32 ∷ 48 ∷ 10 ∷ text_from there Between rest
    by true is others =
        here true is
        ∙ (λ i. hint_text first i ++ others i)
        ∙ sym (append_assoc (led_number false first) (ids_text (32 ∷ []) (filter there ids)) (32 ∷ 48 ∷ 10 ∷ text_from there Between rest))
        ∙ (λ i. ids_text (32 ∷ []) (if sym is i then first ∷ filter there ids else filter there ids) ++ 32 ∷ 48 ∷ 10 ∷ text_from there
        Between rest)
    by false is others =
        here false is ∙ others
        ∙ (λ i. ids_text (32 ∷ []) (if sym is i then first ∷ filter there ids else filter there ids) ++ 32 ∷ 48 ∷ 10 ∷ text_from there
        Between rest)

  deletion_codes : (id : ℕ) (ids rest : List ℕ) → text_from there (Deleted id false) (map hint_code ids ++ 0 ∷ rest)
      ≡ flat_map line_of_step (deletion_of id (filter there ids)) ++ text_from there Between rest
  deletion_codes id [] rest = refl
  deletion_codes id (first ∷ ids) rest = by (there first) refl (deletion_codes id ids rest) where
    later : List ℕ
    later = map hint_code ids ++ 0 ∷ rest

    here : (b : Bool) → there first ≡ b → text_from there (Deleted id false) (hint_code first ∷ later)
        ≡ (if b then head_of_deletion false id ++ code_text (hint_code first) else [])
        ++ text_from there (if b then Deleted id true else Deleted id false) later
    here b is =
        let same : there (number_of (hint_code first)) ≡ b = ap there (number_again first false) ∙ is in
        λ i. (if never_zero first false i then [] else if same i then head_of_deletion false id ++ code_text (hint_code first) else [])
        ++ text_from there (if never_zero first false i then Between else if same i then Deleted id true else Deleted id false) later

    gathered : (a b c e : List ℕ) → ((a ++ 32 ∷ 100 ∷ []) ++ b) ++ (c ++ 32 ∷ 48 ∷ 10 ∷ e)
        ≡ (((a ++ 32 ∷ 100 ∷ []) ++ (b ++ c)) ++ 32 ∷ 48 ∷ 10 ∷ []) ++ e
    gathered a b c e = simp append_assoc

    by : (b : Bool) → there first ≡ b
        → text_from there (Deleted id false) later
        ≡ flat_map line_of_step (deletion_of id (filter there ids)) ++ text_from there Between rest
        → text_from there (Deleted id false) (hint_code first ∷ later)
        ≡ flat_map line_of_step (deletion_of id (filter there (first ∷ ids))) ++ text_from there Between rest
    by true is others =
        here true is
        ∙ (λ i. (head_of_deletion false id ++ hint_text first i) ++ more_deleted id ids rest i)
        ∙ gathered (decimal id) (led_number false first) (ids_text (32 ∷ []) (filter there ids)) (text_from there Between rest)
        ∙ ap (λ (l : List ℕ). l ++ text_from there Between rest) (deletion_text-line id (first ∷ filter there ids)
        ∙ sym (append-nil (line_of_step (Delete id (first ∷ filter there ids)))))
        ∙ (λ i. flat_map line_of_step (deletion_of id (if sym is i then first ∷ filter there ids else filter there ids))
        ++ text_from there Between rest)
    by false is others =
        here false is ∙ others
        ∙ (λ i. flat_map line_of_step (deletion_of id (if sym is i then first ∷ filter there ids else filter there ids))
        ++ text_from there Between rest)

-- steps on a stack are spelled with their deletions cut to what is there
pub spelled : (count : ℕ) (needs : ℕ → Bool) (steps : List Step)
    → text_from (is_there count needs) Between (stack_of steps) ≡ text_of (trimmed_steps count needs steps)
spelled count needs [] = refl
spelled count needs (Add id clause hints groups ∷ steps) =
    addition_spelled (is_there count needs) id clause hints groups (stack_of steps)
    ∙ ap (λ (l : List ℕ). line_of_step (Add id clause hints groups) ++ l) (spelled count needs steps)
spelled count needs (Delete id ids ∷ steps) =
    ap (text_from (is_there count needs) (Deleted id false)) (append_assoc (map hint_code ids) (0 ∷ []) (stack_of steps))
    ∙ deletion_codes (is_there count needs) id ids (stack_of steps)
    ∙ ap (λ (l : List ℕ). flat_map line_of_step (deletion_of id (filter (is_there count needs) ids)) ++ l) (spelled count needs steps)
    ∙ sym (flat_map-append line_of_step (deletion_of id (filter (is_there count needs) ids)) (trimmed_steps count needs steps))
