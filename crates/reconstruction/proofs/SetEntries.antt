-- The entries of a set give the values of its variables one after another.
use Rattle.std.proofs.Common.{◌≡◌, ◌∙◌, ◌+◌, ◌-◌, ℕ, Bool, List, [], ◌∷◌, ◌++◌, Contains, drop, length, map, reverse, take, refl, sym, ap}
use Rattle.std.proofs.Common.{Result, Ok, Err, false, subst, arith}
use Rattle.std.specs.Prelude.{IfOk, IsTrue}
use Rattle.std.proofs.lemmas.List.{length-drop, length-map, length-reverse, reverse-append}
use Rattle.std.proofs.lemmas.List.{reverse-reverse, take-append-drop}
use Rattle.std.proofs.lemmas.List.Elements.{Contains-append_left, Contains-append_right}
use Rattle.cnf_base.specs.Truth.{Assignment}
use Rattle.clause_terms.specs.Walk.{AreAlike}
use Rattle.node_table.specs.declared.node.Node.{Node}
use Rattle.node_table.specs.Diagram.{Graph}
use Rattle.node_table.specs.Value.{by_level, value_of}
use Rattle.reconstruction.specs.declared.cells.Cell.{Cell}
use Rattle.reconstruction.specs.declared.entries.Entry.{Entry}
use Rattle.reconstruction.specs.declared.entries.Kept.{Kept}
use Rattle.reconstruction.specs.Cells.{AreOrdered, cell_value}
use Rattle.reconstruction.specs.Entries.{IsSet, kept_set, later_kept, variables_of}
use Rattle.reconstruction.specs.Laws.{SetsRestored}
use Rattle.reconstruction.specs.SetBack.{set_cells_back, set_nodes_back}
use Rattle.reconstruction.specs.SetsBack.{one_back_by, set_back_by}
use Rattle.reconstruction.proofs.Alike.{value_alike}
use Rattle.reconstruction.proofs.KeptSets.{set_more}
use Rattle.reconstruction.proofs.Holds.{AreBeside, back_same}
use Rattle.reconstruction.proofs.SetBackAlike.{cells_alike, front_taken, take_all}

abbrev variable_of : Kept → ℕ
variable_of kept = kept.variable

-- the entries' variables are the set's
variables_are : (later : ℕ) (xs : List ℕ) (node : Node) → map variable_of (kept_set later xs node) ≡ xs
variables_are later [] node = refl
variables_are later (x ∷ xs) node = ap (λ (l : List ℕ). x ∷ l) (variables_are (later + 1) xs node)

map_append : (xs ys : List Kept) → map variable_of (xs ++ ys) ≡ map variable_of xs ++ map variable_of ys
map_append [] ys = refl
map_append (x ∷ xs) ys = ap (λ (l : List ℕ). x.variable ∷ l) (map_append xs ys)

map_reverse : (xs : List Kept) → map variable_of (reverse xs) ≡ reverse (map variable_of xs)
map_reverse [] = refl
map_reverse (x ∷ xs) =
    ap (map variable_of) (reverse-append (x ∷ []) xs) ∙ map_append (reverse xs) (x ∷ [])
    ∙ ap (λ (l : List ℕ). l ++ x.variable ∷ []) (map_reverse xs) ∙ sym (reverse-append (x.variable ∷ []) (map variable_of xs))

map_entries : (xs ys : List Entry) → map (λ (e : Entry). e.variable) (xs ++ ys)
    ≡ map (λ (e : Entry). e.variable) xs ++ map (λ (e : Entry). e.variable) ys
map_entries [] ys = refl
map_entries (x ∷ xs) ys = ap (λ (l : List ℕ). x.variable ∷ l) (map_entries xs ys)

-- stored entries of a set, the last one first
set_cells : (cells : List Cell) (key : ℕ) (entries older : List Entry) → IsSet key entries → (a : Assignment)
    → set_cells_back cells a (entries ++ older)
    ≡ set_cells_back cells (set_back_by (λ b. cell_value cells b key) a (map (λ (e : Entry). e.variable) entries)) older
set_cells cells key [] older set a = refl
set_cells cells key (entry ∷ entries) older set a =
    let f : Assignment → Bool = λ b. cell_value cells b key in
    let behind : List Entry = entries ++ older in
    let x : ℕ = entry.variable in
    let all : List ℕ = map (λ (e : Entry). e.variable) behind in
    let xs : List ℕ = map (λ (e : Entry). e.variable) entries in
    let long : length xs ≡ length entries = length-map entries (λ (e : Entry). e.variable) in
    let later : take entry.later all ≡ xs = ap (λ (n : ℕ). take n all) set.1
    ∙ ap (take (length entries)) (map_entries entries older)
    ∙ front_taken xs (map (λ (e : Entry). e.variable) older) (length entries) long in
    ap (λ (k : ℕ). set_cells_back cells (one_back_by (λ b. cell_value cells b k) a x (take entry.later all)) behind) set.0
    ∙ ap (λ (l : List ℕ). set_cells_back cells (one_back_by f a x l) behind) later
    ∙ set_cells cells key entries older set.2 (one_back_by f a x xs)

module _ (cells : List Cell) (ordered : AreOrdered cells) (key : ℕ) (set : List Entry) (are : IsSet key (reverse set))
    (old new : Assignment) where
  -- set back at once
  once : AreAlike new (set_back_by (λ b. cell_value cells b key) old (variables_of set)) → (older : List Entry)
      → AreAlike (set_cells_back cells new older) (set_cells_back cells old (reverse set ++ older))
  once alike older =
      let after = cells_alike cells ordered older new (set_back_by (λ b. cell_value cells b key) old (variables_of set)) alike in
      record {
        same = λ v above. after.same v above
            ∙ ap (λ (a : Assignment). a v) (sym (set_cells cells key (reverse set) older are old));
      }

  pub set_done : {E : Type 0} (r : Result Bool E)
      → IfOk r (λ done. IsTrue done → AreAlike new (set_back_by (λ b. cell_value cells b key) old (variables_of set)))
      → IfOk r (λ done. IsTrue done → (older : List Entry)
      → AreAlike (set_cells_back cells new older) (set_cells_back cells old (reverse set ++ older)))
  set_done {E} (Ok b) alike = λ done older. once (alike done) older
  set_done {E} (Err e) alike = tt

  -- their values before don't matter
  kept : AreBeside (variables_of set) old new → (older : List Entry)
      → AreAlike (set_cells_back cells new (reverse set ++ older)) (set_cells_back cells old (reverse set ++ older))
  kept beside older =
      let f : Assignment → Bool = λ b. cell_value cells b key in
      let after = cells_alike cells ordered older (set_back_by f new (variables_of set)) (set_back_by f old (variables_of set))
      (back_same f (λ a b alike. value_alike cells ordered a b alike key) (variables_of set) old new beside) in
      record {
        same = λ v above. ap (λ (a : Assignment). a v) (set_cells cells key (reverse set) older are new) ∙ after.same v above
            ∙ ap (λ (a : Assignment). a v) (sym (set_cells cells key (reverse set) older are old));
      }

  pub set_same : {E : Type 0} (r : Result Bool E) → AreBeside (variables_of set) old new
      → IfOk r (λ done. done ≡ false → (older : List Entry)
      → AreAlike (set_cells_back cells new (reverse set ++ older)) (set_cells_back cells old (reverse set ++ older)))
  set_same {E} (Ok b) beside = λ fails older. kept beside older
  set_same {E} (Err e) beside = tt

-- the entries behind a place, and those before
pub cut : (entries : List Entry) (first : ℕ)
    → reverse (take (length entries - first) (drop first entries)) ++ reverse (take first entries) ≡ reverse entries
cut entries first =
    ap (λ (l : List Entry). reverse l ++ reverse (take first entries))
    (take_all (drop first entries) (length entries - first) (omega (arith, length-drop first entries)))
    ∙ sym (reverse-append (take first entries) (drop first entries)) ∙ ap reverse (take-append-drop first entries)

pub Contains-taken : (entries : List Entry) (n : ℕ) (entry : Entry) → Contains (take n entries) entry → Contains entries entry
Contains-taken entries n entry there = subst (λ (l : List Entry). Contains l entry) (take-append-drop n entries)
    (Contains-append_left (take n entries) (drop n entries) entry there)

pub Contains-slice : (entries : List Entry) (first n : ℕ) (entry : Entry) → Contains (take n (drop first entries)) entry
    → Contains entries entry
Contains-slice entries first n entry there = subst (λ (l : List Entry). Contains l entry) (take-append-drop first entries)
    (Contains-append_right (take first entries) (drop first entries) entry (Contains-taken (drop first entries) n entry there))

-- from the last variable back: the set as it is taken apart from its end
backwards : (graph : Graph) (turned : List ℕ) (node : Node) (older : List Kept) (a : Assignment)
    → set_nodes_back graph a (reverse (kept_set 0 (reverse turned) node) ++ older)
    ≡ set_nodes_back graph (set_back_by (λ b. value_of graph (by_level graph.order b) node) a turned) older
backwards graph [] node older a = refl
backwards graph (x ∷ turned) node older a =
    let f : Assignment → Bool = λ b. value_of graph (by_level graph.order b) node in
    let front : List ℕ = reverse turned in
    let it : Kept = record { variable = x; later = length front; node = node } in
    let before : List Kept = reverse (kept_set 0 front node) ++ older in
    let opened : reverse (kept_set 0 (reverse (x ∷ turned)) node) ++ older ≡ it ∷ before =
    ap (λ (l : List ℕ). reverse (kept_set 0 l node) ++ older) (reverse-append (x ∷ []) turned)
    ∙ ap (λ (l : List Kept). reverse l ++ older) (set_more 0 front x node
    ∙ ap (λ (n : ℕ). kept_set 0 front node ++ record { variable = x; later = n; node = node } ∷ []) (omega arith))
    ∙ ap (λ (l : List Kept). l ++ older) (reverse-append (kept_set 0 front node) (it ∷ [])) in
    let later : later_kept before it ≡ turned =
    ap (take (length front)) (map_append (reverse (kept_set 0 front node)) older
    ∙ ap (λ (l : List ℕ). l ++ map variable_of older) (map_reverse (kept_set 0 front node) ∙ ap reverse (variables_are 0 front node)
    ∙ reverse-reverse turned))
    ∙ front_taken turned (map variable_of older) (length front) (sym (length-reverse turned)) in
    ap (set_nodes_back graph a) opened
    ∙ ap (λ (l : List ℕ). set_nodes_back graph (one_back_by f a x l) before) later
    ∙ backwards graph turned node older (one_back_by f a x turned)

pub sets_restored : SetsRestored
sets_restored graph set node older a =
    ap (λ (l : List ℕ). set_nodes_back graph a (reverse (kept_set 0 l node) ++ older)) (sym (reverse-reverse set))
    ∙ backwards graph (reverse set) node older a
