-- An example of rules: keys are numbers, and each uses those to which its edges lead, in their
-- order.
use Rattle.std.specs.Prelude.{ℕ, ◌==◌, cond, List, [], ◌∷◌, map, Option, Some, None, Result, Ok, Err}
use Rattle.std.specs.Ordering.{nat_cmp}
use Rattle.def_query.specs.Map.{get}
use Rattle.def_query.specs.Meaning.{Meaning}
use Rattle.def_query.specs.declared.step.Step.{Step}
use Rattle.def_query.specs.declared.step.Step.TheVariants.{Needs, Done}

-- nothing is wrong, or a number is at fault, or a cycle is told
abbrev pub Told : Type 0
Told = Result (Option ℕ) (List ℕ)

-- a fault or a cycle that is used is handed on
abbrev pub uses : Step ℕ Told → ℕ → Option Told → Step ℕ Told
uses rest to None = Needs to
uses rest to (Some (Ok None)) = rest
uses rest to (Some (Ok (Some fault))) = Done (Ok (Some fault))
uses rest to (Some (Err cycle)) = Done (Err cycle)

-- what a body gives that goes through these edges in order, and tells `last` where none of them
-- decides
abbrev pub body_over : List (ℕ × ℕ) → Told → ℕ → List (ℕ × Told) → Step ℕ Told
body_over [] last k m = Done last
body_over (e ∷ es) last k m =
    cond (e.0 == k) (uses (body_over es last k m) e.1 (get nat_cmp m e.1)) (body_over es last k m)

-- what is told where no use decides
abbrev pub last_of : ℕ → ℕ → Told
last_of bad k = Ok (cond (bad == k) (Some k) None)

-- the rules of these edges, where one number is at fault
abbrev pub edge_meaning : List (ℕ × ℕ) → ℕ → Meaning ℕ Told
edge_meaning edges bad = record {
  body = λ k m. body_over edges (last_of bad k) k m;
  circular = λ c. Err c;
  bound = λ k. k ∷ map (λ (e : ℕ × ℕ). e.1) edges;
}
