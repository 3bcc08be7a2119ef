-- What frames stand for, and how they go on.
use Rattle.std.specs.Prelude.{◌≡◌, List, [], ◌∷◌, ◌++◌, map, Some}
use Rattle.std.specs.List.{AllByRecursion}
use Rattle.std.specs.declared.cmp.Ordering.{Ordering}
use Rattle.def_query.specs.Answer.{IsCorrect}
use Rattle.def_query.specs.Keys.{AreDistinct}
use Rattle.def_query.specs.Map.{get, IsWithin}
use Rattle.def_query.specs.Meaning.{Meaning}
use Rattle.def_query.specs.declared.step.Step.{Step}
use Rattle.def_query.specs.declared.step.Step.TheVariants.{Needs, Done}
use Rattle.qe_rules.specs.declared.frame.Stage.{Stage}
use Rattle.qe_rules.specs.declared.frame.Stage.TheVariants.{Begun, Waiting, Ended}

-- the key whose body it works out, the answers that it has used, and how far it has come
pub record Frame (K A : Type 0) : Type 0 where
  pub key : K
  pub read : List (K × A)
  pub stage : Stage

-- where a frame stands after what it gave
abbrev pub stage_after : {K A : Type 0} → Step K A → Stage
stage_after (Needs y) = Waiting
stage_after (Done a) = Ended

-- the frames of some rules and behind them that of this key, which is begun
pub record HasBegun {F K A : Type 0} (is_of : F → Type 0) (stands_for : F → Frame K A)
    (was : List F) (key : K) (now : List F) : Type 0 where
  pub frame : F
  pub behind : now ≡ was ++ frame ∷ []
  pub of : is_of frame
  pub begun : stands_for frame ≡ record { key = key; read = []; stage = Begun }

module _ {K A : Type 0} (cmp : K → K → Ordering) (r : Meaning K A) where
  -- the answers that it has used are right, one for a key
  pub record IsRight (f : Frame K A) : Type 0 where
    pub correct : IsCorrect cmp r f.read
    pub distinct : AreDistinct (map (λ (p : K × A). p.0) f.read)

  -- the map has what the frame waits for, and it has not given its answer
  abbrev pub Resumes : Frame K A → List (K × A) → Stage → Type 0
  Resumes f m Begun = Unit {0}
  Resumes f m Waiting = (y : K) → r.body f.key f.read ≡ Needs y → (a : A) × (get cmp m y ≡ Some a)
  Resumes f m Ended = ⊥

  abbrev pub CanResume : Frame K A → List (K × A) → Type 0
  CanResume f m = Resumes f m f.stage

  -- what the body of a key gives that has used some answers and may use those of the map, and what
  -- it has used then
  pub record IsWorked (k : K) (m used : List (K × A)) (s : Step K A) (now : List (K × A)) : Type 0
    where
      pub gives : s ≡ r.body k (used ++ m)
      -- it has used further answers of the map
      pub further : List (K × A)
      pub uses : now ≡ used ++ further
      pub from_map : AllByRecursion (λ p. get cmp m p.0 ≡ Some p.1) further
      -- what it needs it needs after these
      pub needs : (y : K) → s ≡ Needs y → r.body k now ≡ Needs y

  -- what a frame gives where it may use the answers of the map, and what it stands for then
  pub record IsResumed (f : Frame K A) (m : List (K × A)) (s : Step K A) (g : Frame K A) : Type 0
    where
      pub key : g.key ≡ f.key
      pub stage : g.stage ≡ stage_after s
      pub worked : IsWorked f.key m f.read s g.read

  -- the frame needs the key
  pub record WaitsFor (f : Frame K A) (y : K) : Type 0 where
    pub stage : f.stage ≡ Waiting
    pub needs : r.body f.key f.read ≡ Needs y

  -- the key of the first frame, if there is one
  abbrev pub key_of_first : List (Frame K A) → K → K
  key_of_first [] y = y
  key_of_first (f ∷ fs) y = f.key

  -- each frame needs the key of the next one, and the last one y
  abbrev pub AreWaiting : List (Frame K A) → K → Type 0
  AreWaiting [] y = Unit {0}
  AreWaiting (f ∷ fs) y = WaitsFor f (key_of_first fs y) × AreWaiting fs y

  -- the frames of the keys: they have used what the map has, each but the last needs the key of the
  -- next, and the last can be resumed
  pub record IsStack (m : List (K × A)) (frames : List (Frame K A)) (keys : List K) : Type 0 where
    pub keys_of : map (λ (f : Frame K A). f.key) frames ≡ keys
    pub within : AllByRecursion (λ f. IsWithin cmp f.read m) frames
    pub waiting : (before : List (Frame K A)) (top : Frame K A) → frames ≡ before ++ top ∷ []
        → AreWaiting before top.key
    pub resumes : (before : List (Frame K A)) (top : Frame K A) → frames ≡ before ++ top ∷ []
        → CanResume top m
