-- Roots that are asked one after another.
use Rattle.std.proofs.Common.{◌≡◌, ◌≢◌, ℕ, zero, suc, ◌+◌, ◌<◌, List, [], ◌∷◌, length, map, get_or, set, inl, inr, refl, sym, ap, ◌∙◌, arith, add-one}
use Rattle.std.proofs.lemmas.List.{get_or-map, length-map, map-set}
use Rattle.sl_io.specs.declared.root.Fetched.{Fetched}
use Rattle.sl_io.specs.declared.root.Fetched.TheVariants.{Absent}
use Rattle.sl_roots.specs.State.{RootState, Fetch, Ask}

-- so many roots were asked for a name and answered that it is absent, and no others were asked
abbrev pub Passed : List ℕ → ℕ → List RootState → List RootState → Type 0
Passed name zero before now = now ≡ before
Passed name (suc at) [] now = ⊥
Passed name (suc at) (root ∷ before) [] = ⊥
Passed name (suc at) (root ∷ before) (asked ∷ now) =
    Fetch name Absent root asked × Passed name at before now

-- one more root answers that the name is absent
pub passed_suc : (name : List ℕ) (at : ℕ) (before now : List RootState) (d asked : RootState)
    → at < length now → Passed name at before now → Fetch name Absent (get_or now at d) asked
    → Passed name (suc at) before (set now at asked)
passed_suc name zero before [] d asked within passed fetch = absurd (omega arith)
passed_suc name zero [] (next ∷ now) d asked within passed fetch = cc
passed_suc name zero (root ∷ before) (next ∷ now) d asked within passed fetch =
    let same : next ≡ root = cc in
    (rw same at fetch, cc)
passed_suc name (suc at) [] now d asked within passed fetch = absurd passed
passed_suc name (suc at) (root ∷ before) [] d asked within passed fetch = absurd passed
passed_suc name (suc at) (root ∷ before) (next ∷ now) d asked within passed fetch =
    (passed.0, passed_suc name at before now d asked (omega arith) passed.1 fetch)

pub passed_more : (name : List ℕ) (at : ℕ) (before now : List RootState) (d asked : RootState)
    → at < length now → Passed name at before now → Fetch name Absent (get_or now at d) asked
    → Passed name (at + 1) before (set now at asked)
passed_more name at before now d asked within passed fetch =
    rw (add-one at) (passed_suc name at before now d asked within passed fetch)

-- one more root gives another answer
pub ask_decided : (name : List ℕ) (at : ℕ) (answer : Fetched) (before now : List RootState) (d asked : RootState)
    → at < length now → Passed name at before now → Fetch name answer (get_or now at d) asked
    → answer ≢ Absent → Ask name (at + 1) answer before (set now at asked)
ask_decided name zero answer before [] d asked within passed fetch found = absurd (omega arith)
ask_decided name zero answer [] (next ∷ now) d asked within passed fetch found = cc
ask_decided name zero answer (root ∷ before) (next ∷ now) d asked within passed fetch found =
    let same : next ≡ root = cc in
    inl (rw same at fetch, found, refl, cc)
ask_decided name (suc at) answer [] now d asked within passed fetch found = absurd passed
ask_decided name (suc at) answer (root ∷ before) [] d asked within passed fetch found = absurd passed
ask_decided name (suc at) answer (root ∷ before) (next ∷ now) d asked within passed fetch found =
    inr (passed.0, (at + 1, omega arith, ask_decided name at answer before now d asked (omega arith) passed.1 fetch found))

-- all roots answered that the name is absent
pub ask_absent : (name : List ℕ) (at : ℕ) (before now : List RootState)
    → at ≡ length before → Passed name at before now → Ask name at Absent before now
ask_absent name zero [] now end passed = (refl, refl, passed)
ask_absent name (suc at) [] now end passed = absurd passed
ask_absent name zero (root ∷ before) now end passed = absurd (omega arith)
ask_absent name (suc at) (root ∷ before) [] end passed = absurd passed
ask_absent name (suc at) (root ∷ before) (next ∷ now) end passed =
    inr (passed.0, (at, omega arith, ask_absent name at before now (omega arith) passed.1))

pub passed_length : (name : List ℕ) (at : ℕ) (before now : List RootState)
    → Passed name at before now → length now ≡ length before
passed_length name zero before now passed = cc
passed_length name (suc at) [] now passed = absurd passed
passed_length name (suc at) (root ∷ before) [] passed = absurd passed
passed_length name (suc at) (root ∷ before) (next ∷ now) passed =
    omega (arith, passed_length name at before now passed.1)

-- the same of roots that are seen as states
pub state_at : {A : Type 0} (state : A → RootState) (items : List A) (at : ℕ) (root : A)
    → at < length items → root ≡ get_or items at root
    → state root ≡ get_or (map state items) at (state root)
state_at state items at root within is =
    ap state is ∙ sym (get_or-map state items at root (state root) within)

pub passed_item : {A : Type 0} (state : A → RootState) (name : List ℕ) (at : ℕ) (before : List RootState)
    (items : List A) (root next : A)
    → at < length items → root ≡ get_or items at root
    → Passed name at before (map state items) → Fetch name Absent (state root) (state next)
    → Passed name (at + 1) before (map state (set items at next))
passed_item state name at before items root next within is passed fetch =
    let here = rw (state_at state items at root within is) at fetch in
    let inside : at < length (map state items) = omega (arith, length-map items state) in
    rw map-set (passed_more name at before (map state items) (state root) (state next) inside passed here)

pub decided_item : {A : Type 0} (state : A → RootState) (name : List ℕ) (at : ℕ) (answer : Fetched)
    (before : List RootState) (items : List A) (root next : A)
    → at < length items → root ≡ get_or items at root
    → Passed name at before (map state items) → Fetch name answer (state root) (state next)
    → answer ≢ Absent → Ask name (at + 1) answer before (map state (set items at next))
decided_item state name at answer before items root next within is passed fetch found =
    let here = rw (state_at state items at root within is) at fetch in
    let inside : at < length (map state items) = omega (arith, length-map items state) in
    rw map-set (ask_decided name at answer before (map state items) (state root) (state next) inside passed here found)

pub absent_items : {A : Type 0} (state : A → RootState) (name : List ℕ) (at asked : ℕ) (items : List A) (now : List RootState)
    → at ≡ length items → asked ≡ at
    → Passed name at (map state items) now → Ask name asked Absent (map state items) now
absent_items state name at asked items now end as_many passed =
    rw as_many (ask_absent name at (map state items) now (end ∙ sym (length-map items state)) passed)
