-- What is read of a form are its tokens.
use Rattle.std.proofs.Common.{◌≡◌, ℕ, zero, suc, Bool, true, false, List, [], ◌∷◌, ◌++◌, length, refl, sym, subst}
use Rattle.std.specs.Prelude.{not, Option}
use Rattle.std.proofs.lemmas.Bool.{false≢true}
use Rattle.def_token.specs.Lexical.{Token}
use Rattle.def_tree.specs.Limits.{Entry, plain}
use Rattle.def_tree.specs.Symbol.{Symbol, Name, Number, Text, End, Sign, symbol, IsNumeral}
use Rattle.law_tree.proofs.Symbols.{is_numeral, is_sign-true}
use Rattle.def_reading.specs.Cursor.{Told, At, FarthestFailure}
use Rattle.def_reading.specs.StmtReading.{stmt_in}
use Rattle.def_reading.specs.Try.{Reads, Reader, try_then, try_as}
use Rattle.law_types.proofs.AheadSound.{names-true}
use Rattle.law_stmts.proofs.LocalSound.{SoundAt, listed_sound}
use Rattle.law_stmts.proofs.StmtSound.{stmts_sound, stmt_sound}
use Rattle.law_exprs.proofs.TrySound.{Sound, sound_as, sound_by, sound_then, sound_choice, expr_sound, type_is_sound}
use Rattle.def_decl_reading.specs.Form.{Front, AName, ANumber, ANarrow, AText, ASign, numbers, narrows, texts, is_front, Form, Made, Never, Branch, Then, As, Listed, Many, Until, AType, AnExpr, Stmts, begins, with_first, many_in, unless_by, until_in, reads}
use Rattle.law_decls.proofs.Gives.{Fits, is_made, is_part, is_yes, is_no, is_then, is_as, is_last, is_more, ManyBy, is_none, is_one, UntilBy, is_end, is_on, Gives}

-- a symbol of a kind
number_fits : (token : Token) (s : Symbol) → symbol token ≡ s → numbers s ≡ true → IsNumeral token
number_fits token Name is h = absurd (cc)
number_fits token (Number wide) is h = is_numeral token wide is
number_fits token Text is h = absurd (cc)
number_fits token End is h = absurd (cc)
number_fits token (Sign text) is h = absurd (cc)

narrow_by : (wide : Bool) → not wide ≡ true → Number wide ≡ Number false
narrow_by true h = absurd (false≢true h)
narrow_by false h = refl

narrow_fits : (s : Symbol) → narrows s ≡ true → s ≡ Number false
narrow_fits Name h = absurd (cc)
narrow_fits (Number wide) h = narrow_by wide h
narrow_fits Text h = absurd (cc)
narrow_fits End h = absurd (cc)
narrow_fits (Sign text) h = absurd (cc)

text_fits : (s : Symbol) → texts s ≡ true → s ≡ Text
text_fits Name h = absurd (cc)
text_fits (Number wide) h = absurd (cc)
text_fits Text h = refl
text_fits End h = absurd (cc)
text_fits (Sign text) h = absurd (cc)

-- a token that passes the test of what it is to be is that
pub front_fits : (front : Front) (token : Token) → is_front front (symbol token) ≡ true → Fits front token
front_fits AName token h = names-true (symbol token) h
front_fits ANumber token h = number_fits token (symbol token) refl h
front_fits ANarrow token h = narrow_fits (symbol token) h
front_fits AText token h = text_fits (symbol token) h
front_fits (ASign sign) token h = is_sign-true sign (symbol token) h

-- the tokens of a form, with some entries
pub record Given {A : Type 0} (form : Form A) (tokens : List Token) (a : A) (rest : List Token) : Type 0 where
  pub entries : List Entry
  pub gives : Gives form tokens a entries rest

-- the tokens of a list of forms, with some entries
pub record GivenList {A : Type 0} (Whole : List Token → List A → List Entry → List Token → Type 0) (tokens : List Token) (a : List A) (rest : List Token) : Type 0 where
  pub entries : List Entry
  pub gives : Whole tokens a entries rest

module _ {A : Type 0} (front : Front) (entry : Entry) (form : Token → Form A) (sound : (token : Token) → SoundAt (Given (form token)) (reads (form token))) where
  abbrev Whole : List Token → List A → List Token → Type 0
  Whole = GivenList (ManyBy front entry (λ token. Gives (form token)))

  abbrev each : Token → Reader A
  each token = reads (form token)

  abbrev more_each : ℕ → A → Reader (List A)
  more_each turns first reach place = try_as (with_first first) (many_in (is_front front) entry each turns reach place)

  -- forms that each begin with a token of one kind
  many_sound : (turns : ℕ) → SoundAt Whole (many_in (is_front front) entry each turns)
  many_sound zero at limit tokens reach = tt
  many_sound (suc turns) at limit tokens reach =
      sound_choice (Whole tokens) (is_front front) entry (λ token reach place. try_then (more_each turns) (each token reach place)) (λ reach place. Reads [] place reach) at limit tokens reach
      (λ token others at limit b.
      subst (λ ts. Sound (Whole ts) (try_then (more_each turns) (each token reach (At at limit others)))) (sym b.are)
      (sound_then (Given (form token) others) (Whole (token ∷ others)) (more_each turns) (each token reach (At at limit others)) (sound token at limit others reach)
      (λ first at limit behind reach g.
      sound_as (Whole behind) (Whole (token ∷ others)) (with_first first) (many_in (is_front front) entry each turns reach (At at limit behind))
      (λ more rest m. record { entries = _; gives = is_one (front_fits front token b.passes) g.gives m.gives })
      (many_sound turns at limit behind reach))))
      (λ none. record { entries = []; gives = is_none none })

module _ {A : Type 0} (test : Symbol → Bool) (form : Form A) (sound : SoundAt (Given form) (reads form)) where
  abbrev Forms : List Token → List A → List Token → Type 0
  Forms = GivenList (UntilBy test (Gives form))

  abbrev more_forms : ℕ → A → Reader (List A)
  more_forms turns first reach place = try_as (with_first first) (until_in test (reads form) turns reach place)

  -- forms up to a token that passes a test
  until_by_sound : (b : Bool) (turns : ℕ) (at : ℕ) (limit : Option Told) (tokens : List Token) (reach : Option FarthestFailure) → begins test tokens ≡ b → SoundAt Forms (until_in test (reads form) turns)
      → Sound (Forms tokens) (unless_by b (λ reach place. try_then (more_forms turns) (reads form reach place)) reach (At at limit tokens))
  until_by_sound true turns at limit tokens reach is more = record { entries = []; gives = is_end is }
  until_by_sound false turns at limit tokens reach is more =
      sound_then (Given form tokens) (Forms tokens) (more_forms turns) (reads form reach (At at limit tokens)) (sound at limit tokens reach)
      (λ first at limit behind reach g.
      sound_as (Forms behind) (Forms tokens) (with_first first) (until_in test (reads form) turns reach (At at limit behind))
      (λ others rest m. record { entries = _; gives = is_on is g.gives m.gives })
      (more at limit behind reach))

  until_sound : (turns : ℕ) → SoundAt Forms (until_in test (reads form) turns)
  until_sound zero at limit tokens reach = tt
  until_sound (suc turns) at limit tokens reach = until_by_sound (begins test tokens) turns at limit tokens reach refl (until_sound turns)

-- what is read of a form are its tokens
pub form_read : {A : Type 0} (form : Form A) → SoundAt (Given form) (reads form)
form_read (Made made) at limit tokens reach = record { entries = []; gives = is_made }
form_read Never at limit tokens reach = tt
form_read (Branch front entry yes' no') at limit tokens reach =
    let form = Branch front entry yes' no' in
    sound_choice (Given form tokens) (is_front front) entry (λ token. reads (yes' token)) (reads no') at limit tokens reach
    (λ token others at limit b.
    subst (λ ts. Sound (Given form ts) (reads (yes' token) reach (At at limit others))) (sym b.are)
    (sound_by (Given (yes' token) others) (Given form (token ∷ others)) (reads (yes' token) reach (At at limit others))
    (λ a rest g. record { entries = entry ∷ g.entries; gives = is_yes (front_fits front token b.passes) g.gives }) (form_read (yes' token) at limit others reach)))
    (λ none. sound_by (Given no' tokens) (Given form tokens) (reads no' reach (At at limit tokens)) (λ a rest g. record { entries = g.entries; gives = is_no none g.gives })
    (form_read no' at limit tokens reach))
form_read (Then first next) at limit tokens reach =
    sound_then (Given first tokens) (Given (Then first next) tokens) (λ a. reads (next a)) (reads first reach (At at limit tokens)) (form_read first at limit tokens reach)
    (λ a at limit mid reach g. sound_by (Given (next a) mid) (Given (Then first next) tokens) (reads (next a) reach (At at limit mid))
    (λ b rest h. record { entries = g.entries ++ h.entries; gives = is_then g.gives h.gives }) (form_read (next a) at limit mid reach))
form_read (As make form) at limit tokens reach =
    sound_as (Given form tokens) (Given (As make form) tokens) make (reads form reach (At at limit tokens)) (λ a rest g. record { entries = g.entries; gives = is_as g.gives })
    (form_read form at limit tokens reach)
form_read (Listed form) at limit tokens reach =
    listed_sound (Given form) (Given (Listed form)) with_first [] (reads form)
    (λ a tokens rest g. record { entries = g.entries ++ []; gives = is_last g.gives })
    (λ a more tokens after rest comma g c l. record { entries = g.entries ++ plain ∷ l.entries; gives = is_more g.gives c l.gives })
    (form_read form) (suc (length tokens)) at limit tokens reach
form_read (Many front entry form) at limit tokens reach =
    sound_by (GivenList (ManyBy front entry (λ token. Gives (form token))) tokens) (Given (Many front entry form) tokens)
    (many_in (is_front front) entry (λ token. reads (form token)) (suc (length tokens)) reach (At at limit tokens))
    (λ a rest m. record { entries = m.entries; gives = m.gives }) (many_sound front entry form (λ token. form_read (form token)) (suc (length tokens)) at limit tokens reach)
form_read (Until test form) at limit tokens reach =
    sound_by (GivenList (UntilBy test (Gives form)) tokens) (Given (Until test form) tokens) (until_in test (reads form) (suc (length tokens)) reach (At at limit tokens))
    (λ a rest m. record { entries = m.entries; gives = m.gives }) (until_sound test form (form_read form) (suc (length tokens)) at limit tokens reach)
form_read (AType around) at limit tokens reach =
    sound_by _ (Given (AType around) tokens) (reads (AType around) reach (At at limit tokens)) (λ a rest t. record { entries = _; gives = is_part t }) (type_is_sound around at limit tokens reach)
form_read (AnExpr around) at limit tokens reach =
    sound_by _ (Given (AnExpr around) tokens) (reads (AnExpr around) reach (At at limit tokens)) (λ a rest t. record { entries = _; gives = is_part t }) (expr_sound false around at limit tokens reach)
form_read (Stmts around) at limit tokens reach =
    let turns = suc (length tokens) in
    sound_by _ (Given (Stmts around) tokens) (reads (Stmts around) reach (At at limit tokens)) (λ a rest t. record { entries = _; gives = is_part t })
    (stmts_sound (stmt_in turns around) (stmt_sound turns around) turns at limit tokens reach)
