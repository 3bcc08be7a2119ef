-- What is asked of rules holds of each body that is data.
use Rattle.std.specs.Prelude.{◌≡◌, List, ◌∷◌, Some, None}
use Rattle.def_query.specs.Map.{IsWithin, get}
use Rattle.def_query.specs.declared.step.Step.TheVariants.{Needs, Done}
use Rattle.sl_key.specs.Flow.{Facts}
use Rattle.sl_key.specs.Order.{key_cmp}
use Rattle.sl_key.specs.declared.answer.Answer.{Answer}
use Rattle.sl_key.specs.declared.answer.Answer.TheVariants.{Circular}
use Rattle.sl_key.specs.declared.key.Key.{Key}
use Rattle.sl_key.specs.declared.key.Kind.{Kind}
use Rattle.def_body.specs.Part.{Body, run_body}

-- what a body gives rests on the answers that it uses, and it hands circular answers on
pub record IsSound (kind : Kind) (body : Body kind) : Type 0 where
  -- what a body is done with, it is done with under more answers too
  pub done_stays :
      (m n : Facts) (a : Answer) → run_body kind m body ≡ Done a → IsWithin key_cmp m n
      → run_body kind n body ≡ Done a
  -- what it needs, it needs under more answers that lack it
  pub needs_stay :
      (m n : Facts) (y : Key) → run_body kind m body ≡ Needs y → IsWithin key_cmp m n
      → get key_cmp n y ≡ None
      → run_body kind n body ≡ Needs y
  -- it needs only what the answers lack
  pub needs_lacking : (m : Facts) (y : Key) → run_body kind m body ≡ Needs y
      → get key_cmp m y ≡ None
  -- a body that uses a key with a circular answer is done with this same answer
  pub circular_stays :
      (m : Facts) (y : Key) (c : List Key)
      → run_body kind m body ≡ Needs y
      → run_body kind ((y, Circular c) ∷ m) body ≡ Done (Circular c)
  -- it is done with a circular answer only where it uses this same answer of some key
  pub circular_used :
      (m : Facts) (c : List Key) → run_body kind m body ≡ Done (Circular c)
      → (y : Key) × (get key_cmp m y ≡ Some (Circular c))

-- all bodies are sound
abbrev pub BodiesAreSound : Type 0
BodiesAreSound = (kind : Kind) (body : Body kind) → IsSound kind body
