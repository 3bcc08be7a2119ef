-- What fetches leave as it is, and the faults that they count.
use Rattle.std.proofs.Common.{ℕ, ◌+◌, ◌-◌, ◌^◌, ◌≤◌, min, IsTrue, List, [], ◌∷◌, refl, sym, subst, ◌∙◌, inl, inr, arith}
use Rattle.std.proofs.Math.Nat.{le_refl, le_trans}
use Rattle.def_sources.specs.Sources.{Sources}
use Rattle.sl_io.specs.declared.root.Fetched.{Fetched}
use Rattle.sl_io.specs.declared.root.Fetched.TheVariants.{Failed}
use Rattle.sl_roots.specs.Load.{Gathers, Stops, Refuses, RoseAt, ShowsFault}
use Rattle.sl_roots.specs.Load.Gathers.{begins, finds, misses}
use Rattle.sl_roots.specs.State.{RootState, Keeps, Keep, Ask}
use Rattle.sl_roots.specs.declared.refusal.LoadRefusal.{LoadRefusal}
use Rattle.sl_roots.specs.declared.refusal.LoadRefusal.TheVariants.{Fault, ModuleTooLarge, TooManyModules, NoMemory}

keeps_refl : (root : RootState) → Keeps root root
keeps_refl root = record { never_falls = le_refl root.faults; as_steady = refl; files = λ steady. refl }

pub keep_refl : (roots : List RootState) → Keep roots roots
keep_refl [] = tt
keep_refl (root ∷ roots) = (keeps_refl root, keep_refl roots)

keeps_trans : (a b c : RootState) → Keeps a b → Keeps b c → Keeps a c
keeps_trans a b c first second = record {
  never_falls = le_trans first.never_falls second.never_falls;
  as_steady = second.as_steady ∙ first.as_steady;
  files = λ steady. second.files (subst IsTrue (sym first.as_steady) steady) ∙ first.files steady;
}

pub keep_trans : (a b c : List RootState) → Keep a b → Keep b c → Keep a c
keep_trans [] [] [] first second = tt
keep_trans [] [] (z ∷ c) first second = absurd second
keep_trans [] (y ∷ b) c first second = absurd first
keep_trans (x ∷ a) [] c first second = absurd first
keep_trans (x ∷ a) (y ∷ b) [] first second = absurd second
keep_trans (x ∷ a) (y ∷ b) (z ∷ c) first second =
    (keeps_trans x y z first.0 second.0, keep_trans a b c first.1 second.1)

pub ask_keeps : (name : List ℕ) (asked : ℕ) (answer : Fetched) (before after : List RootState)
    → Ask name asked answer before after → Keep before after
ask_keeps name asked answer [] after ask = rw ask.2 tt
ask_keeps name asked answer (root ∷ before) [] ask = absurd ask
ask_keeps name asked answer (root ∷ before) (now ∷ after) (inl decides) =
    (decides.0.keeps, rw decides.3 (keep_refl before))
ask_keeps name asked answer (root ∷ before) (now ∷ after) (inr passes) =
    (passes.0.keeps, ask_keeps name passes.1.0 answer before after passes.1.2)

pub gathers_keeps : (names : List (List ℕ)) (before : List RootState) (sources : Sources) (after : List RootState)
    → Gathers names before sources after → Keep before after
gathers_keeps names before sources after begins = keep_refl before
gathers_keeps names before sources after (finds held roots last name bytes asked gathers next ask) =
    keep_trans before roots last (gathers_keeps names before held roots gathers) (ask_keeps name asked _ roots last ask)
gathers_keeps names before sources after (misses held roots last name asked gathers next ask) =
    keep_trans before roots last (gathers_keeps names before held roots gathers) (ask_keeps name asked _ roots last ask)

pub stops_keeps : (names : List (List ℕ)) (name : List ℕ) (asked : ℕ) (answer : Fetched) (before after : List RootState)
    → Stops names name asked answer before after → Keep before after
stops_keeps names name asked answer before after stops =
    keep_trans before stops.roots after
    (gathers_keeps names before stops.sources stops.roots stops.gathers)
    (ask_keeps name asked answer stops.roots after stops.ask)

pub refuses_keeps : (refusal : LoadRefusal) (names : List (List ℕ)) (before after : List RootState)
    → Refuses refusal names before after → Keep before after
refuses_keeps (Fault root name) names before after refuses =
    stops_keeps names name refuses.0 _ before after refuses.2
refuses_keeps (ModuleTooLarge name) names before after refuses =
    stops_keeps names name refuses.0 _ before after refuses.1
refuses_keeps TooManyModules names before after refuses =
    gathers_keeps names before refuses.0 after refuses.1
refuses_keeps NoMemory names before after (inl gathered) =
    gathers_keeps names before gathered.0 after gathered.1
refuses_keeps NoMemory names before after (inr stopped) =
    stops_keeps names stopped.0 stopped.1 stopped.2 before after stopped.3

-- a count that rose from where it did not fall
rose_since : (last a b c : ℕ) → a ≤ b → min (b + 1) last ≤ c → min (a + 1) last ≤ c
rose_since last a b c falls rose = omega arith

pub rose_from : (number : ℕ) (before roots after : List RootState)
    → Keep before roots → RoseAt number roots after → RoseAt number before after
rose_from number [] [] after keep rose = rose
rose_from number [] (s ∷ roots) after keep rose = absurd keep
rose_from number (r ∷ before) [] after keep rose = absurd keep
rose_from number (r ∷ before) (s ∷ roots) [] keep rose = rose
rose_from number (r ∷ before) (s ∷ roots) (t ∷ after) keep (inl here) =
    inl (here.0, rose_since (2 ^ 64 - 1) r.faults s.faults t.faults keep.0.never_falls here.1)
rose_from number (r ∷ before) (s ∷ roots) (t ∷ after) keep (inr further) =
    inr (further.0, further.1, rose_from further.0 before roots after keep.1 further.2)

pub ask_rose : (name : List ℕ) (asked : ℕ) (before after : List RootState)
    → Ask name asked Failed before after → RoseAt asked before after
ask_rose name asked [] after ask = let absent = ask.1 in cc
ask_rose name asked (root ∷ before) [] ask = absurd ask
ask_rose name asked (root ∷ before) (now ∷ after) (inl decides) = inl (decides.2, decides.0.failed refl)
ask_rose name asked (root ∷ before) (now ∷ after) (inr passes) =
    inr (passes.1.0, passes.1.1, ask_rose name passes.1.0 before after passes.1.2)

pub shows_fault : (refusal : LoadRefusal) (names : List (List ℕ)) (before after : List RootState)
    → Refuses refusal names before after → ShowsFault refusal before after
shows_fault (Fault root name) names before after refuses =
    let stops = refuses.2 in (
      refuses.0,
      refuses.1,
      rose_from refuses.0 before stops.roots after
          (gathers_keeps names before stops.sources stops.roots stops.gathers)
          (ask_rose name refuses.0 stops.roots after stops.ask),
    )
shows_fault (ModuleTooLarge name) names before after refuses = tt
shows_fault TooManyModules names before after refuses = tt
shows_fault NoMemory names before after refuses = tt
