-- The entries of a number in a history, and books of them.
use Rattle.std.proofs.Common.{◌≡◌, ◌≢◌, ◌⊎◌, ℕ, ◌<◌, ◌≤◌, Bool, true, false, ◌==◌, List, [], ◌∷◌, ◌++◌, refl, ap, sym, ◌∙◌, subst, inl, inr, ⊎_elim, arith, append_assoc, append-nil, cond, if◌then◌else◌, eq-eqb, ne_eqb}
use Rattle.std.proofs.lemmas.List.Elements.{filter-append}
use mathlib.Core.Logic.{dite}
use mathlib.Core.List.{IsPrefix}
use native.Mathlib.Decide.{ℕ_discrete}
use Rattle.def_turn.specs.Pass.{entries_of, HasBook, Holds, written, AreNumbered}
use Rattle.sl_turn.proofs.Prefixes.{append_nothing, nothing_twice}

module _ {E : Type 0} where
  pub book_left : (bs cs : List (ℕ × List E)) (n : ℕ) (es : List E) → HasBook bs n es → HasBook (bs ++ cs) n es
  book_left [] cs n es h = absurd h
  book_left (b ∷ bs) cs n es h = ⊎_elim inl (λ t. inr (book_left bs cs n es t)) h

  pub book_right : (bs cs : List (ℕ × List E)) (n : ℕ) (es : List E) → HasBook cs n es → HasBook (bs ++ cs) n es
  book_right [] cs n es h = h
  book_right (b ∷ bs) cs n es h = inr (book_right bs cs n es h)

  pub holds_left : (bs cs : List (ℕ × List E)) (n : ℕ) → Holds bs n → Holds (bs ++ cs) n
  holds_left bs cs n h = (h.0, book_left bs cs n h.0 h.1)

  pub holds_right : (bs cs : List (ℕ × List E)) (n : ℕ) → Holds cs n → Holds (bs ++ cs) n
  holds_right bs cs n h = (h.0, book_right bs cs n h.0 h.1)

  -- a book of two rows of books is in one of them
  pub book_either : (bs cs : List (ℕ × List E)) (n : ℕ) (es : List E) → HasBook (bs ++ cs) n es → HasBook bs n es ⊎ HasBook cs n es
  book_either [] cs n es h = inr h
  book_either (b ∷ bs) cs n es h = ⊎_elim (λ t. inl (inl t)) (λ t. ⊎_elim (λ u. inl (inr u)) inr (book_either bs cs n es t)) h

  pub holds_either : (bs cs : List (ℕ × List E)) (n : ℕ) → Holds (bs ++ cs) n → Holds bs n ⊎ Holds cs n
  holds_either bs cs n h = ⊎_elim (λ t. inl (h.0, t)) (λ t. inr (h.0, t)) (book_either bs cs n h.0 h.1)

  -- a book that was written to is one of before, with the new entries where it is that of the number
  pub book_before : (m : ℕ) (new : List E) (bs : List (ℕ × List E)) (n : ℕ) (es : List E) → HasBook (written m new bs) n es
      → (old : List E) × HasBook bs n old × (es ≡ (if n == m then old ++ new else old))
  book_before m new [] n es h = absurd h
  book_before m new (b ∷ bs) n es h = ⊎_elim
      (λ (t : (b.0 ≡ n) × ((if b.0 == m then b.1 ++ new else b.1) ≡ es)). (b.1, inl (t.0, refl), sym t.1 ∙ ap (λ (k : ℕ). if k == m then b.1 ++ new else b.1) t.0))
      (λ (t : HasBook (written m new bs) n es). let r = book_before m new bs n es t in (r.0, inr r.1, r.2)) h

  pub holds_before : (m : ℕ) (new : List E) (bs : List (ℕ × List E)) (n : ℕ) → Holds (written m new bs) n → Holds bs n
  holds_before m new bs n h = let r = book_before m new bs n h.0 h.1 in (r.0, r.1)

  pub holds_after : (m : ℕ) (new : List E) (bs : List (ℕ × List E)) (n : ℕ) → Holds bs n → Holds (written m new bs) n
  holds_after m new [] n h = absurd h.1
  holds_after m new (b ∷ bs) n h = ⊎_elim
      (λ (t : (b.0 ≡ n) × (b.1 ≡ h.0)). ((if b.0 == m then b.1 ++ new else b.1), inl (t.0, refl)))
      (λ (t : HasBook bs n h.0). let r = holds_after m new bs n (h.0, t) in (r.0, inr r.1)) h.1

  pub written_nothing : (m : ℕ) (bs : List (ℕ × List E)) → written m [] bs ≡ bs
  written_nothing m [] = refl
  written_nothing m (b ∷ bs) = let e : (if b.0 == m then b.1 ++ [] else b.1) ≡ b.1 = same (b.0 == m) b.1 in λ i. (b.0, e i) ∷ written_nothing m bs i
    where
      same : (c : Bool) (xs : List E) → (if c then xs ++ [] else xs) ≡ xs
      same true xs = append-nil xs
      same false xs = refl

  module _ (by : E → ℕ) where
    -- all these entries are of one number
    abbrev pub AreOf : ℕ → List E → Type 0
    AreOf n [] = Unit {0}
    AreOf n (e ∷ es) = (by e ≡ n) × AreOf n es

    pub entries_all : (n : ℕ) (es : List E) → AreOf n es → entries_of by n es ≡ es
    entries_all n [] h = refl
    entries_all n (e ∷ es) h = ap (λ (c : Bool). cond c (e ∷ entries_of by n es) (entries_of by n es)) (eq-eqb (by e) n h.0) ∙ ap (λ xs. e ∷ xs) (entries_all n es h.1)

    pub entries_none : (n m : ℕ) (es : List E) → AreOf n es → m ≢ n → entries_of by m es ≡ []
    entries_none n m [] h ne = refl
    entries_none n m (e ∷ es) h ne = let other : by e ≢ m = (λ q. ne (sym q ∙ h.0)) in
        ap (λ (c : Bool). cond c (e ∷ entries_of by m es) (entries_of by m es)) (ne_eqb (by e) m other) ∙ entries_none n m es h.1 ne

    -- no entry is of a number that was not given out
    pub entries_later : (top : ℕ) (es : List E) → AreNumbered by top es → entries_of by top es ≡ []
    entries_later top [] h = refl
    entries_later top (e ∷ es) h = let other : by e ≢ top = (λ q. let lt = h.1 in omega arith) in
        ap (λ (c : Bool). cond c (e ∷ entries_of by top es) (entries_of by top es)) (ne_eqb (by e) top other) ∙ entries_later top es h.2

    pub numbered_more : (top more : ℕ) (es : List E) → top ≤ more → AreNumbered by top es → AreNumbered by more es
    numbered_more top more [] le h = tt
    numbered_more top more (e ∷ es) le h = let lt = h.1 in (h.0, omega arith, numbered_more top more es le h.2)

    pub numbered_append : (top : ℕ) (es fs : List E) → AreNumbered by top es → AreNumbered by top fs → AreNumbered by top (es ++ fs)
    numbered_append top [] fs h k = k
    numbered_append top (e ∷ es) fs h k = (h.0, h.1, numbered_append top es fs h.2 k)

    pub numbered_of : (top n : ℕ) (es : List E) → 1 ≤ n → n < top → AreOf n es → AreNumbered by top es
    numbered_of top n [] a b h = tt
    numbered_of top n (e ∷ es) a b h = let q = h.0 in (omega arith, omega arith, numbered_of top n es a b h.1)

    pub numbered_rest : (top : ℕ) (es fs : List E) → AreNumbered by top (es ++ fs) → AreNumbered by top fs
    numbered_rest top [] fs h = h
    numbered_rest top (e ∷ es) fs h = numbered_rest top es fs h.2

    -- a beginning of a list with no entry of the number has none either
    pub none_begins : (n : ℕ) (xs zs : List E) → IsPrefix xs zs → entries_of by n zs ≡ [] → entries_of by n xs ≡ []
    none_begins n xs zs p e = nothing_twice (entries_of by n xs) (entries_of by n p.0) (sym (filter-append (λ x. by x == n) xs p.0) ∙ (ap (entries_of by n) p.1 ∙ e))

    -- between two lists with the same entries of a number each has these entries
    pub between : (n : ℕ) (xs ys zs es : List E) → IsPrefix xs ys → IsPrefix ys zs → entries_of by n xs ≡ es → entries_of by n zs ≡ es → entries_of by n ys ≡ es
    between n xs ys zs es p q a b =
        let f : List E → List E = entries_of by n in
        let ys_is : f xs ++ f p.0 ≡ f ys = sym (filter-append (λ x. by x == n) xs p.0) ∙ ap f p.1 in
        let zs_is : f ys ++ f q.0 ≡ f zs = sym (filter-append (λ x. by x == n) ys q.0) ∙ ap f q.1 in
        let all : es ++ (f p.0 ++ f q.0) ≡ es = sym (append_assoc es (f p.0) (f q.0)) ∙ (ap (λ w. (w ++ f p.0) ++ f q.0) (sym a) ∙ (ap (λ w. w ++ f q.0) ys_is ∙ (zs_is ∙ b))) in
        let none : f p.0 ≡ [] = nothing_twice (f p.0) (f q.0) (append_nothing es (f p.0 ++ f q.0) all) in
        sym ys_is ∙ (ap (λ w. f xs ++ w) none ∙ (append-nil (f xs) ∙ a))

    -- the entries of a number that holds the new ones too, and of another
    pub entries_after : (m n : ℕ) (history new old : List E) → AreOf m new → entries_of by n history ≡ old
        → entries_of by n (history ++ new) ≡ (if n == m then old ++ new else old)
    entries_after m n history new old are is = dite (ℕ_discrete n m)
        (λ e. subst (λ (c : Bool). entries_of by n (history ++ new) ≡ (if c then old ++ new else old)) (sym (eq-eqb n m e))
        (filter-append (λ x. by x == n) history new ∙ (ap (λ w. w ++ entries_of by n new) is ∙ ap (λ w. old ++ w) (entries_all n new (subst (λ (k : ℕ). AreOf k new) (sym e) are)))))
        (λ ne. subst (λ (c : Bool). entries_of by n (history ++ new) ≡ (if c then old ++ new else old)) (sym (ne_eqb n m ne))
        (filter-append (λ x. by x == n) history new ∙ (ap (λ w. entries_of by n history ++ w) (entries_none m n new are ne) ∙ (append-nil (entries_of by n history) ∙ is))))

    -- a further list has no entry, where each number below `top` has none in it
    pub no_rest : (top : ℕ) (es : List E) → AreNumbered by top es → ((n : ℕ) → 1 ≤ n → n < top → entries_of by n es ≡ []) → es ≡ []
    no_rest top [] h none = refl
    no_rest top (e ∷ es) h none = let no = none (by e) h.0 h.1 in
        let is : entries_of by (by e) (e ∷ es) ≡ e ∷ entries_of by (by e) es = ap (λ (c : Bool). cond c (e ∷ entries_of by (by e) es) (entries_of by (by e) es)) (eq-eqb (by e) (by e) refl) in
        absurd (cc (is, no))
