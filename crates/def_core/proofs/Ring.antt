-- The history of three callers in a ring is legal.
use Rattle.std.proofs.Common.{◌≡◌, inl, inr, ℕ, ◌==◌, Bool, true, false, cond, List, [], ◌∷◌, ◌++◌, refl, sym, ◌∙◌, ap, subst, arith}
use Rattle.std.specs.Ordering.{nat_cmp}
use Rattle.std.proofs.lemmas.Bool.Decides.{nat_tests}
use Rattle.def_query.specs.Edges.{Told, edge_meaning}
use Rattle.def_query.specs.Keys.{IsIn}
use Rattle.def_query.specs.Meaning.{Meaning}
use Rattle.def_query.proofs.Walks.{in_append_right}
use Rattle.def_core.specs.declared.event.Event.{Event}
use Rattle.def_core.specs.declared.event.Event.TheVariants.{Ask, Publish, Look, Abandon}
use Rattle.def_core.specs.declared.outcome.Outcome.{Outcome}
use Rattle.def_core.specs.declared.outcome.Outcome.TheVariants.{Known, Wait}
use Rattle.def_core.specs.Legal.{HasAsked, MayFollow, Legal}
use Rattle.def_core.proofs.Lists.{append_more}
use Rattle.def_core.proofs.Rows.{Events, ring}

-- 0 needs 1, 1 needs 2 and 2 needs 0
abbrev round_rules : Meaning ℕ Told
round_rules = edge_meaning ((0, 1) ∷ (1, 2) ∷ (2, 0) ∷ []) 9

-- each event may follow those before it, in turn
abbrev AllFollow : Events → Events → Type 0
AllFollow before [] = Unit {0}
AllFollow before (e ∷ h) = MayFollow nat_cmp round_rules 3 before e × AllFollow (before ++ e ∷ []) h

follows :
    (past h before : Events) (e : Event ℕ Told) (behind : Events) → AllFollow past h → h ≡ before ++ e ∷ behind
    → MayFollow nat_cmp round_rules 3 (past ++ before) e
follows past [] [] e behind a s = absurd (let f : [] ≡ e ∷ behind = s in cc)
follows past [] (x ∷ before) e behind a s = absurd (let f : [] ≡ x ∷ (before ++ e ∷ behind) = s in cc)
follows past (y ∷ h) [] e behind a s =
    let f : y ∷ h ≡ e ∷ behind = s in
    let g : y ≡ e = cc in
    subst (MayFollow nat_cmp round_rules 3 (past ++ [])) g (subst (λ l. MayFollow nat_cmp round_rules 3 l y) (sym (nothing past)) a.0)
  where
    nothing : (xs : Events) → xs ++ [] ≡ xs
    nothing [] = refl
    nothing (x ∷ xs) = ap (λ l. x ∷ l) (nothing xs)
follows past (y ∷ h) (x ∷ before) e behind a s =
    let f : y ∷ h ≡ x ∷ (before ++ e ∷ behind) = s in
    let g : h ≡ before ++ e ∷ behind = cc in
    let i : y ≡ x = cc in
    subst (λ l. MayFollow nat_cmp round_rules 3 l e)
    (append_more past (y ∷ []) before ∙ ap (λ z. past ++ z ∷ before) i)
    (follows (past ++ y ∷ []) h before e behind a.1 g)

-- what was asked stands among the events
asked_in : (h : Events) (c t k : ℕ) → HasAsked nat_cmp round_rules 3 h c t k → IsIn (Ask c k) h
asked_in h c t k a =
    subst (IsIn (Ask c k)) (sym a.is) (in_append_right (Ask c k) a.before (Ask c k ∷ a.behind) (inl refl))

same_test : (a b : ℕ) → a ≡ b → (a == b) ≡ true
same_test a b e = grind (arith, nat_tests)

-- no event of the list asks this key for this caller
abbrev asks_none : ℕ → ℕ → Events → Bool
asks_none c k [] = true
asks_none c k (Ask d l ∷ h) = cond (c == d) (cond (k == l) false (asks_none c k h)) (asks_none c k h)
asks_none c k (x ∷ h) = asks_none c k h

not_asked : (c k : ℕ) (h : Events) → asks_none c k h ≡ true → ¬ IsIn (Ask c k) h
not_asked c k [] e i = i
not_asked c k (Ask d l ∷ h) e (inl f) =
    let s : c ≡ d = cc in
    let t : k ≡ l = cc in
    let g : false ≡ true =
    sym (ap (λ b. cond b (cond (k == l) false (asks_none c k h)) (asks_none c k h)) (same_test c d s)
    ∙ ap (λ b. cond b false (asks_none c k h)) (same_test k l t))
    ∙ e in
    cc
not_asked c k (Ask d l ∷ h) e (inr i) = not_asked c k h (rest (c == d) (k == l) (asks_none c k h) e) i
  where
    rest : (a b z : Bool) → cond a (cond b false z) z ≡ true → z ≡ true
    rest true true z g = absurd (let f : false ≡ true = g in cc)
    rest true false z g = g
    rest false b z g = g
not_asked c k (Publish d a ∷ h) e (inl f) = let g : Ask c k ≡ Publish d a = f in cc
not_asked c k (Publish d a ∷ h) e (inr i) = not_asked c k h e i
not_asked c k (Look d ∷ h) e (inl f) = let g : Ask c k ≡ Look d = f in cc
not_asked c k (Look d ∷ h) e (inr i) = not_asked c k h e i
not_asked c k (Abandon d ∷ h) e (inl f) = let g : Ask c k ≡ Abandon d = f in cc
not_asked c k (Abandon d ∷ h) e (inr i) = not_asked c k h e i

new : (h : Events) (c t k : ℕ) → asks_none c k h ≡ true → ¬ HasAsked nat_cmp round_rules 3 h c t k
new h c t k e a = not_asked c k h e (asked_in h c t k a)

abbrev known : Outcome (List ℕ)
known = Known

not_waiting : (w : ℕ) → known ≡ Wait w → ⊥
not_waiting w e = cc

some_chain : (x : ℕ) (xs : List ℕ) → x ∷ xs ≡ [] → ⊥
some_chain x xs e = cc

-- the ring of three callers is legal under these rules
ring_legal : Legal nat_cmp round_rules 3 ring
ring_legal before e behind s =
    follows [] ring before e behind (
      record { fits = record { least = omega arith; greatest = omega arith; allowed = refl }; may = tt },
      (
        record { fits = record { least = omega arith; greatest = omega arith; allowed = refl }; may = tt },
        (
          record { fits = record { least = omega arith; greatest = omega arith; allowed = refl }; may = tt },
          (
            record {
              fits = record { least = omega arith; greatest = omega arith; allowed = refl };
              may = record {
                depends = record { earlier = []; given = tt; needs = refl };
                earlier = tt;
                once = new (Ask 1 0 ∷ Ask 2 1 ∷ Ask 3 2 ∷ []) 1 0 1 refl;
                untold = refl;
              };
            },
            (
              record {
                fits = record { least = omega arith; greatest = omega arith; allowed = refl };
                may = record {
                  depends = record { earlier = []; given = tt; needs = refl };
                  earlier = tt;
                  once = new (Ask 1 0 ∷ Ask 2 1 ∷ Ask 3 2 ∷ Ask 1 1 ∷ []) 2 1 2 refl;
                  untold = refl;
                };
              },
              (
                record {
                  fits = record { least = omega arith; greatest = omega arith; allowed = refl };
                  may = record {
                    depends = record { earlier = []; given = tt; needs = refl };
                    earlier = tt;
                    once = new (Ask 1 0 ∷ Ask 2 1 ∷ Ask 3 2 ∷ Ask 1 1 ∷ Ask 2 2 ∷ []) 3 2 0 refl;
                    untold = refl;
                  };
                },
                (
                  record { fits = record { least = omega arith; greatest = omega arith; allowed = (refl, some_chain 2 []) }; may = refl },
                  (
                    record { fits = record { least = omega arith; greatest = omega arith; allowed = refl }; may = not_waiting },
                    (
                      record { fits = record { least = omega arith; greatest = omega arith; allowed = (refl, some_chain 1 []) }; may = refl },
                      (
                        record { fits = record { least = omega arith; greatest = omega arith; allowed = refl }; may = not_waiting },
                        (
                          record { fits = record { least = omega arith; greatest = omega arith; allowed = (refl, some_chain 0 []) }; may = refl },
                          tt,
                        ),
                      ),
                    ),
                  ),
                ),
              ),
            ),
          ),
        ),
      ),
    )
    s
