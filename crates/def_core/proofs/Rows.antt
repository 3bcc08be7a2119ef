-- The definitions, computed on histories whose outcomes are known.
use Rattle.std.proofs.Common.{◌≡◌, ℕ, List, [], ◌∷◌, Some, None, Ok, Err, refl, map}
use Rattle.std.specs.Ordering.{nat_cmp}
use Rattle.def_query.specs.Edges.{Told}
use Rattle.def_query.specs.Map.{get}
use Rattle.def_core.specs.declared.event.Event.{Event}
use Rattle.def_core.specs.declared.event.Event.TheVariants.{Ask, Publish, Look, Abandon}
use Rattle.def_core.specs.declared.outcome.Outcome.{Outcome}
use Rattle.def_core.specs.declared.outcome.Outcome.TheVariants.{Known, Yours, Circle, Wait, Published, Abandoned}
use Rattle.def_core.specs.State.{idle}
use Rattle.def_core.specs.Needs.{rotated}
use Rattle.def_core.specs.Replay.{replay, steps}

abbrev pub Events : Type 0
Events = List (Event ℕ Told)

-- what the events come to
abbrev outcomes : ℕ → Events → List (Outcome (List ℕ))
outcomes n h = map (λ (s : Event ℕ Told × Outcome (List ℕ)). s.1) (steps nat_cmp n h)

-- the cycle of 0, 1 and 2
abbrev pub round : Told
round = Err (0 ∷ 1 ∷ 2 ∷ [])

-- three callers, where 0 needs 1, 1 needs 2 and 2 needs 0
abbrev pub ring : Events
ring =
    Ask 1 0 ∷ Ask 2 1 ∷ Ask 3 2 ∷ Ask 1 1 ∷ Ask 2 2 ∷ Ask 3 0
    ∷ Publish 3 round ∷ Look 2 ∷ Publish 2 round ∷ Look 1 ∷ Publish 1 round ∷ []

ring_outcomes :
    outcomes 3 ring
    ≡ Yours ∷ Yours ∷ Yours ∷ Wait 2 ∷ Wait 3 ∷ Circle (0 ∷ 1 ∷ 2 ∷ [])
    ∷ Published ∷ Known ∷ Published ∷ Known ∷ Published ∷ []
ring_outcomes = refl

ring_ends :
    replay nat_cmp 3 ring
    ≡ record { published = (0, round) ∷ (1, round) ∷ (2, round) ∷ []; callers = idle ∷ idle ∷ idle ∷ [] }
ring_ends = refl

-- begun at another key the cycle is the same
ring_turned :
    outcomes 3 (Ask 1 2 ∷ Ask 2 0 ∷ Ask 3 1 ∷ Ask 1 0 ∷ Ask 2 1 ∷ Ask 3 2 ∷ [])
    ≡ Yours ∷ Yours ∷ Yours ∷ Wait 2 ∷ Wait 3 ∷ Circle (0 ∷ 1 ∷ 2 ∷ []) ∷ []
ring_turned = refl

rotated_ring : rotated nat_cmp (5 ∷ 7 ∷ 2 ∷ 9 ∷ []) ≡ 2 ∷ 9 ∷ 5 ∷ 7 ∷ []
rotated_ring = refl

-- one caller publishes what another waits for
published_outcomes :
    outcomes 2 (Ask 1 4 ∷ Ask 2 4 ∷ Look 2 ∷ Publish 1 (Ok None) ∷ Look 2 ∷ Ask 2 4 ∷ [])
    ≡ Yours ∷ Wait 1 ∷ Wait 1 ∷ Published ∷ Known ∷ Known ∷ []
published_outcomes = refl

published_answer :
    get nat_cmp (replay {A = Told} nat_cmp 2 (Ask 1 4 ∷ Ask 2 4 ∷ Publish 1 (Ok None) ∷ Look 2 ∷ [])).published 4
    ≡ Some (Ok None)
published_answer = refl

-- one caller gives up what another waits for, which then claims it; what it had published stays
abandoned_outcomes :
    outcomes 2 (Ask 1 3 ∷ Publish 1 (Ok None) ∷ Ask 1 4 ∷ Ask 2 4 ∷ Abandon 1 ∷ Look 2 ∷ Ask 1 3 ∷ [])
    ≡ Yours ∷ Published ∷ Yours ∷ Wait 1 ∷ Abandoned ∷ Yours ∷ Known ∷ []
abandoned_outcomes = refl

abandoned_ends :
    replay {A = Told} nat_cmp 2 (Ask 1 3 ∷ Publish 1 (Ok None) ∷ Ask 1 4 ∷ Ask 2 4 ∷ Abandon 1 ∷ Look 2 ∷ [])
    ≡ record {
      published = (3, Ok None) ∷ [];
      callers = idle ∷ record { chain = 4 ∷ []; awaits = None } ∷ [];
    }
abandoned_ends = refl

-- a key that needs itself
loop_outcomes : outcomes 1 (Ask 1 6 ∷ Ask 1 6 ∷ []) ≡ Yours ∷ Circle (6 ∷ []) ∷ []
loop_outcomes = refl

-- 0 needs 1, and 1 and 2 need each other: the caller that leads to their cycle is told none itself
led_outcomes :
    outcomes 3 (Ask 1 0 ∷ Ask 2 1 ∷ Ask 3 2 ∷ Ask 1 1 ∷ Ask 2 2 ∷ Ask 3 1 ∷ [])
    ≡ Yours ∷ Yours ∷ Yours ∷ Wait 2 ∷ Wait 3 ∷ Circle (1 ∷ 2 ∷ []) ∷ []
led_outcomes = refl

-- one caller whose chain leads to a cycle that begins at its second key
inner_outcomes :
    outcomes 1 (Ask 1 5 ∷ Ask 1 8 ∷ Ask 1 7 ∷ Ask 1 8 ∷ [])
    ≡ Yours ∷ Yours ∷ Yours ∷ Circle (7 ∷ 8 ∷ []) ∷ []
inner_outcomes = refl

-- two callers never wait for each other's keys: whichever key of the other's chain the second asks, the first
-- waits for one that leads to the asking key
crossed_outcomes :
    outcomes 2 (Ask 1 0 ∷ Ask 2 1 ∷ Ask 1 3 ∷ Ask 2 4 ∷ Ask 1 1 ∷ Ask 2 0 ∷ [])
    ≡ Yours ∷ Yours ∷ Yours ∷ Yours ∷ Wait 2 ∷ Circle (0 ∷ 3 ∷ 1 ∷ 4 ∷ []) ∷ []
crossed_outcomes = refl
