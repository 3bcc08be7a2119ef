-- The words that begin types, and where types end.
use Rattle.std.proofs.Common.{◌≡◌, true, false, List, ◌∷◌, refl, sym, subst}
use Rattle.std.specs.Prelude.{Option}
use Rattle.std.proofs.lemmas.Bool.{or_from, or_parts}
use Rattle.std.proofs.Math.Bool.{and-false}
use Rattle.def_token.specs.Lexical.{Token}
use Rattle.def_tree.specs.Part.{is_name_alone, type_goes_on}
use Rattle.def_tree.specs.Statements.{begins_with}
use Rattle.def_tree.specs.Symbol.{Symbol, symbol, is_sign, Is}
use Rattle.def_tree.specs.Types.{IsPath, ended, dotted, IsTypeArgs, IsTypeList, type_args}
use Rattle.def_tree.specs.TypeTree.{TypeWord, word_text, TypeTree, Named, TypeTrees, NoTypes, type_words}
use Rattle.law_tree.proofs.Symbols.{found_in}

-- the word that a symbol is, if it is one
abbrev pub word_of : Symbol → Option TypeWord
word_of = found_in word_text type_words

-- no type arguments stand before a path that is not followed by them
pub no_args : {tokens path rest : List Token} (first : Token) → IsPath tokens path rest
    → type_goes_on (Named first NoTypes path) rest ≡ false → begins_with "<" tokens ≡ false
no_args first (ended {rest = rest}) e = (or_parts (begins_with "." rest) (begins_with "<" rest) e).1
no_args first (dotted h n p) e = rw h refl

pub no_dot : (type : TypeTree) (rest : List Token) → type_goes_on type rest ≡ false → begins_with "." rest ≡ false
no_dot type rest e = (or_parts (begins_with "." rest) _ e).0

pub args_begin : {tokens rest : List Token} {args : TypeTrees} → IsTypeArgs tokens args rest → begins_with "<" tokens ≡ true
args_begin (type_args h l c) = rw h refl

-- a type does not go on with a mark that is neither a dot nor `<`
pub stops : (type : TypeTree) (mark : Token) (tokens : List Token) → is_sign "." (symbol mark) ≡ false → is_sign "<" (symbol mark) ≡ false
    → type_goes_on type (mark ∷ tokens) ≡ false
stops type mark tokens h k = or_from _ _ h (rw k (and-false (is_name_alone type)))

-- a type ends before `>`
pub ends_closing : (type : TypeTree) (closing : Token) (mid rest : List Token) → mid ≡ closing ∷ rest → Is ">" closing → type_goes_on type mid ≡ false
ends_closing type closing mid rest is c = subst (λ r. type_goes_on type r ≡ false) (sym is) (stops type closing rest (rw c refl) (rw c refl))

-- a type ends before a comma
pub ends_comma : (type : TypeTree) (mark : Token) (tokens : List Token) → Is "," mark → type_goes_on type (mark ∷ tokens) ≡ false
ends_comma type mark tokens c = stops type mark tokens (rw c refl) (rw c refl)

-- types up to `>`, and the tokens behind it
pub record IsClosedList (tokens : List Token) (types : TypeTrees) (rest : List Token) : Type 0 where
  pub closing : Token
  pub list : IsTypeList tokens types (closing ∷ rest)
  pub closes : Is ">" closing
