-- Whole steps, by what they are at the next token.
use Rattle.std.proofs.Common.{◌≡◌, ℕ, Bool, true, List, ◌∷◌, drop, refl, sym, ap, ◌∙◌}
use Rattle.std.specs.Prelude.{Option, Some}
use Rattle.std.specs.Option.{option_map}
use Rattle.def_token.specs.Lexical as lexical
use Rattle.def_tree.specs.ExprTree as exprs
use Rattle.def_tree.specs.ExprTree.{ExprTree as Tree}
use Rattle.def_tree.specs.Limits.{Nesting, plain}
use Rattle.def_tree.specs.Symbol as symbols
use Rattle.def_tree.specs.Symbol.{is_wide, symbol}
use Rattle.def_reading.specs.Machine as machine
use Rattle.def_reading.specs.Machine.{Held, Step, Expected, Dotted, whole, stands, member_by, behind_by, step_at}
use Rattle.def_reading.specs.Cursor as lists
use Rattle.def_reading.specs.Cursor.{Told, advance}
use Rattle.def_reading.specs.Plain.{plain_held, plain_step}
use Rattle.def_reading.specs.TypeAhead.{names}
use Rattle.law_machine.proofs.PlainSteps.{ends_plain, colon_plain, comma_plain, closing_plain, index_plain}
use Rattle.sl_token.specs.View.{token_in, tokens_in}
use Rattle.sl_token.specs.declared.token.Kind.TheVariants as kind
use Rattle.sl_token.specs.declared.token.Token.{Token}
use Rattle.sl_tree.proofs.Views.{expr_in-Number}
use Rattle.sl_tree.specs.View.{expr_in}
use Rattle.sl_tree.specs.declared.expressions.ExprTree.TheVariants as expr
use Rattle.sl_machine.specs.Kept.{kept_held, IsAlike}
use Rattle.sl_machine.specs.Marks.{mark_on}
use Rattle.sl_cursor.specs.Seen.{place_in, told_in}
use Rattle.sl_machine.specs.Words.{behind_in}
use Rattle.sl_cursor.specs.declared.cursor.Cursor.{Cursor}
use Rattle.sl_machine.specs.declared.words.Behind.{Behind}
use Rattle.sl_machine.specs.declared.words.Behind.TheVariants as behind
use Rattle.sl_machine.proofs.Keeping.{held_alike, same_alike}
use Rattle.sl_cursor.proofs.Places.{at_tokens}

-- what marks lead to hangs on what is plain of a whole expression alone
mark_plain : (mark : Behind) (tokens : List lexical.Token) (place : lists.Cursor) (held other : Held) → plain_held held ≡ plain_held other
    → plain_step (mark_on mark held tokens place) ≡ plain_step (mark_on mark other tokens place)
mark_plain behind.Call tokens place held other h = ends_plain tokens place held other h
mark_plain behind.Index tokens place held other h = ends_plain tokens place held other h
mark_plain behind.Dot tokens place held other h = ends_plain tokens place held other h
mark_plain behind.Colons tokens place held other h = ends_plain tokens place held other h
mark_plain behind.Question tokens place held other h = ends_plain tokens place held other h
mark_plain behind.Colon tokens place held other h = colon_plain tokens place held other h
mark_plain behind.Comma tokens place held other h = comma_plain tokens place held other h
mark_plain behind.Closing tokens place held other h = closing_plain tokens place held other h
mark_plain behind.IndexClosing tokens place held other h = index_plain tokens place held other h

-- marks that stand behind whole expressions
pub record EndsWhole (mark : Behind) : Type 0 where
  pub no_call : mark ≡ behind.Call → ⊥
  pub no_index : mark ≡ behind.Index → ⊥
  pub no_dot : mark ≡ behind.Dot → ⊥
  pub no_colons : mark ≡ behind.Colons → ⊥
  pub no_question : mark ≡ behind.Question → ⊥

mark_is : (around : Nesting) (long : Option Told) (mark : Behind) → EndsWhole mark → (v : Tree) (fs : List machine.Frame) (at : ℕ) (t : lexical.Token) (ts : List lexical.Token) (place : lists.Cursor)
    → mark_on mark (whole v fs) (t ∷ ts) place ≡ behind_by around long (Some (behind_in mark)) v fs at t ts place
mark_is around long behind.Call h v fs at t ts place = absurd (h.no_call refl)
mark_is around long behind.Index h v fs at t ts place = absurd (h.no_index refl)
mark_is around long behind.Dot h v fs at t ts place = absurd (h.no_dot refl)
mark_is around long behind.Colons h v fs at t ts place = absurd (h.no_colons refl)
mark_is around long behind.Question h v fs at t ts place = absurd (h.no_question refl)
mark_is around long behind.Colon h v fs at t ts place = refl
mark_is around long behind.Comma h v fs at t ts place = refl
mark_is around long behind.Closing h v fs at t ts place = refl
mark_is around long behind.IndexClosing h v fs at t ts place = refl

-- tokens that begin with one
begun : (source : List ℕ) (token : Token) (after rest : List Token) → rest ≡ token ∷ after → tokens_in source rest ≡ token_in source token ∷ tokens_in source (drop 1 rest)
begun source token after rest is = ap (tokens_in source) is ∙ sym (ap (λ ts. token_in source token ∷ tokens_in source (drop 1 ts)) is)

pub ending_alike : (source : List ℕ) (around : Nesting) (long : Option Told) (keep : Bool) (mark : Behind) (v : Tree) (fs : List machine.Frame) (held : Held) (token : Token) (after : List Token) (place : Cursor) (made : Step)
    → EndsWhole mark → place.rest.now ≡ token ∷ after → kept_held keep held ≡ kept_held keep (whole v fs)
    → made ≡ mark_on mark held (tokens_in source place.rest.now) (place_in source place)
    → IsAlike (keep ≡ true) made (behind_by around long (Some (behind_in mark)) v fs place.at (token_in source token) (tokens_in source (drop 1 place.rest.now)) (place_in source place))
ending_alike source around long keep mark v fs held token after place made no' is h m =
    held_alike keep (λ held. mark_on mark held (tokens_in source place.rest.now) (place_in source place)) made _ held (whole v fs)
    (mark_plain mark (tokens_in source place.rest.now) (place_in source place)) h m
    (ap (λ ts. mark_on mark (whole v fs) ts (place_in source place)) (begun source token after place.rest.now is)
    ∙ mark_is around long mark no' v fs place.at (token_in source token) (tokens_in source (drop 1 place.rest.now)) (place_in source place))

pub over_alike : (keep : Bool) (v : Tree) (fs : List machine.Frame) (held : Held) (tokens : List lexical.Token) (place : lists.Cursor) (made : Step)
    → kept_held keep held ≡ kept_held keep (whole v fs) → made ≡ machine.ends_by held tokens place → IsAlike (keep ≡ true) made (machine.ends_by (whole v fs) tokens place)
over_alike keep v fs held tokens place made h m =
    held_alike keep (λ held. machine.ends_by held tokens place) made _ held (whole v fs) (ends_plain tokens place) h m refl

-- steps at a place that begins with a token

number_symbol : (source : List ℕ) (token : Token) → token.kind ≡ kind.Number → symbol (token_in source token) ≡ symbols.Number (is_wide (token_in source token).text)
number_symbol source token h = rw h refl

number_by : (around : Nesting) (long : Option Told) (fs : List machine.Frame) (at : ℕ) (limit : Option Told) (t : lexical.Token) (ts : List lexical.Token) (wide : Bool) → symbol t ≡ symbols.Number wide
    → stands fs (exprs.Number t) (advance plain (lists.At at limit (t ∷ ts))) ≡ step_at around long Expected fs (lists.At at limit (t ∷ ts))
number_by around long fs at limit t ts wide h = rw h refl

pub number_alike : (source : List ℕ) (around : Nesting) (long : Option Told) (fs : List machine.Frame) (token : Token) (after : List Token) (place : Cursor) (made : Step) → place.rest.now ≡ token ∷ after
    → token.kind ≡ kind.Number → made ≡ stands fs (expr_in source (expr.Number token)) (advance plain (place_in source place))
    → IsAlike (Unit {0}) made (step_at around long Expected fs (place_in source place))
number_alike source around long fs token after place made is k m =
    same_alike (Unit {0}) made _
    (m ∙ ap (λ tree. stands fs tree (advance plain (place_in source place))) (expr_in-Number source token)
    ∙ ap (λ ts. stands fs (exprs.Number (token_in source token)) (advance plain (at_tokens source place ts))) is
    ∙ number_by around long fs place.at (option_map (told_in source) place.limit) (token_in source token) (tokens_in source after) _ (number_symbol source token k)
    ∙ ap (λ ts. step_at around long Expected fs (at_tokens source place ts)) (sym is))

pub dotted_alike : (source : List ℕ) (around : Nesting) (long : Option Told) (keep : Bool) (fs : List machine.Frame) (base : Tree) (token : Token) (after : List Token) (place : Cursor) (mode : machine.Mode) (made : Step)
    → place.rest.now ≡ token ∷ after → mode ≡ Dotted base → made ≡ member_by (names (symbol (token_in source token))) base (token_in source token) fs (place_in source place)
    → IsAlike (keep ≡ true) made (step_at around long mode fs (place_in source place))
dotted_alike source around long keep fs base token after place mode made is m h =
    same_alike (keep ≡ true) made _
    (h ∙ ap (λ ts. member_by (names (symbol (token_in source token))) base (token_in source token) fs (at_tokens source place ts)) is
    ∙ ap (λ ts. step_at around long (Dotted base) fs (at_tokens source place ts)) (sym is)
    ∙ ap (λ mode. step_at around long mode fs (place_in source place)) (sym m))
