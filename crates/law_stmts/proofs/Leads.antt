-- What ends at the first token of a tree: nothing, or the limit of nesting.
use Rattle.std.proofs.Common.{◌≡◌, ℕ, suc, Bool, true, false, List, [], ◌∷◌, ◌++◌, take, drop, refl, ap}
use Rattle.std.specs.Prelude.{Option, Some, None, nat_lt, if◌then◌else◌}
use Rattle.def_token.specs.Lexical.{Token}
use Rattle.def_tree.specs.ExprTree as expr
use Rattle.def_tree.specs.ExprTree.{ExprTree}
use Rattle.def_tree.specs.Limits.{Nesting, Entry, Deep, Long, plain, opens, first_of, led_by, greatest_nesting, type_entries, expr_entries, whole_entries, local_entries, simple_entries, stmt_entries, in_bracket, in_unary, in_block}
use Rattle.def_tree.specs.StmtTree as tree
use Rattle.def_tree.specs.StmtTree.{LocalTree, SimpleTree, StmtTree}
use Rattle.def_tree.specs.TypeTree.{TypeTree, Word, Named}
use Rattle.def_reading.specs.Cursor.{Told, At, noted, passed}

-- an entry that is no limit of length
pub data Shallow : Entry → Type 0 where
  nothing : Shallow None
  deep : Shallow (Some Deep)

-- entries that begin with one that is no limit of length
pub record IsLed (entries : List Entry) : Type 0 where
  pub first : Entry
  pub more : List Entry
  pub are : entries ≡ first ∷ more
  pub shallow : Shallow first

opens_by : (b : Bool) → Shallow (if b then Some Deep else None)
opens_by true = deep
opens_by false = nothing

pub opens_shallow : (open' : ℕ) → Shallow (opens open')
opens_shallow open' = opens_by (nat_lt greatest_nesting open')

abbrev led : (first : Entry) (more : List Entry) → Shallow first → IsLed (first ∷ more)
led first more h = record { first = first; more = more; are = refl; shallow = h }

led_before : (entries others : List Entry) → IsLed entries → IsLed (entries ++ others)
led_before entries others l = record { first = l.first; more = l.more ++ others; are = ap (λ es. es ++ others) l.are; shallow = l.shallow }

expr_led : (around : Nesting) (e : ExprTree) → IsLed (expr_entries around e)
expr_led around (expr.Number token) = led plain [] nothing
expr_led around (expr.BooleanLiteral value token) = led plain [] nothing
expr_led around (expr.Itself token) = led plain [] nothing
expr_led around (expr.Name token args) = led plain _ nothing
expr_led around (expr.FunctionalCast word token operand) = led plain _ nothing
expr_led around (expr.OwnType token) = led plain [] nothing
expr_led around (expr.Group opening inner) = led (opens (in_bracket around).brackets) _ (opens_shallow (in_bracket around).brackets)
expr_led around (expr.Call callee opening args) = led_before (expr_entries around callee) _ (expr_led around callee)
expr_led around (expr.Index base opening index) = led_before (expr_entries around base) _ (expr_led around base)
expr_led around (expr.Member base name) = led_before (expr_entries around base) _ (expr_led around base)
expr_led around (expr.Unary operator token operand) = led (opens (in_unary around).unary) _ (opens_shallow (in_unary around).unary)
expr_led around (expr.Cast opening word token operand) = led (opens (suc around.brackets)) _ (opens_shallow (suc around.brackets))
expr_led around (expr.Binary operator token left right) = led_before (expr_entries around left) _ (expr_led around left)
expr_led around (expr.Conditional condition question yes' no') = led_before (expr_entries around condition) _ (expr_led around condition)

limited_led : (g : ℕ) (entries : List Entry) → IsLed entries → IsLed (take (suc g) entries ++ led_by (Some Long) (drop (suc g) entries))
limited_led g entries l =
    record {
      first = l.first;
      more = take g l.more ++ led_by (Some Long) (drop g l.more);
      are = ap (λ es. take (suc g) es ++ led_by (Some Long) (drop (suc g) es)) l.are;
      shallow = l.shallow;
    }

whole_led : (around : Nesting) (e : ExprTree) → IsLed (whole_entries around e)
whole_led around e = limited_led 1023 (expr_entries around e) (expr_led around e)

type_led : (types : ℕ) (type : TypeTree) → IsLed (type_entries types type)
type_led types (Word word first path) = led (opens (suc types)) _ (opens_shallow (suc types))
type_led types (Named first args path) = led (opens (suc types)) _ (opens_shallow (suc types))

local_led : (around : Nesting) (local : LocalTree) → IsLed (local_entries around local)
local_led around (tree.Typed None type all) = led_before (type_entries around.types type) _ (type_led around.types type)
local_led around (tree.Typed (Some word) type all) = led plain _ nothing
local_led around (tree.Inferred binding word name type value) = led plain _ nothing

simple_led : (around : Nesting) (simple : SimpleTree) → IsLed (simple_entries around simple)
simple_led around (tree.Assign assignment token place value) = led_before (whole_entries around place) _ (whole_led around place)
simple_led around (tree.PostfixStep step place token) = led_before (whole_entries around place) _ (whole_led around place)
simple_led around (tree.PrefixStep step token place) = led plain _ nothing
simple_led around (tree.CallStatement call) = whole_led around call

pub stmt_led : (around : Nesting) (stmt : StmtTree) → IsLed (stmt_entries around stmt)
stmt_led around (tree.Block opening stmts) = led (opens (in_block around).blocks) _ (opens_shallow (in_block around).blocks)
stmt_led around (tree.Local local) = led_before (local_entries around local) _ (local_led around local)
stmt_led around (tree.Simple simple) = led_before (simple_entries around simple) _ (simple_led around simple)
stmt_led around (tree.Empty semicolon) = led plain _ nothing
stmt_led around (tree.Return word value) = led plain _ nothing
stmt_led around (tree.Break word) = led plain _ nothing
stmt_led around (tree.Continue word) = led plain _ nothing
stmt_led around (tree.If word condition yes') = led plain _ nothing
stmt_led around (tree.IfElse word condition yes' no') = led plain _ nothing
stmt_led around (tree.While word condition body) = led plain _ nothing
stmt_led around (tree.For word start condition step body) = led plain _ nothing

pub noted_twice : (limit : Option Told) (first entry : Entry) (at : ℕ) (token : Token) → Shallow first → Shallow entry
    → noted limit (first_of first entry) at token ≡ noted (noted limit entry at token) first at token
noted_twice (Some told) None None at token h k = refl
noted_twice (Some told) None (Some l) at token h k = refl
noted_twice (Some told) (Some l) None at token h k = refl
noted_twice (Some told) (Some l) (Some m) at token h k = refl
noted_twice None None None at token h k = refl
noted_twice None None (Some l) at token h k = refl
noted_twice None (Some l) None at token h k = refl
noted_twice None (Some l) (Some m) at token deep deep = refl

-- entries whose first token opens more than itself, from the place where this is noted
pub led_passes : (entries : List Entry) (entry : Entry) (at : ℕ) (limit : Option Told) (token : Token) (tokens : List Token) → IsLed entries → Shallow entry
    → passed (led_by entry entries) (At at limit (token ∷ tokens)) ≡ passed entries (At at (noted limit entry at token) (token ∷ tokens))
led_passes entries entry at limit token tokens l h =
    rw (l.are) (ap (λ limit. passed l.more (At (suc at) limit tokens)) (noted_twice limit l.first entry at token l.shallow h))
