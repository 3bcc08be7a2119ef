-- What is told of a text has a text.
use Rattle.std.proofs.Common.{◌≡◌, ℕ, zero, suc, Bool, true, false, List, [], ◌∷◌, length, subst, sym, refl}
use Rattle.std.specs.Char.{is_ascii_digit}
use Rattle.std.specs.Prelude.{Option, Some, None, IsTrue, is_some, slice_index, if◌then◌else◌}
use Rattle.def_slang.specs.Diagnostic.{takes}
use Rattle.def_slang.specs.Keyword.{is_keyword}
use Rattle.def_slang.specs.Name.{is_name}
use Rattle.def_token.specs.Lexeme.{Class, Space, Comment, OpenComment, Word, Quoted, OpenQuoted, Symbol, Stray}
use Rattle.def_token.specs.Lexical as lexical
use Rattle.def_token.specs.Lexical.{Fault, HasLexicalFault, IsFault, IsToken, Token, Verdict, args_of, verdict_of}
use Rattle.def_token.specs.Number.{number_of}
use Rattle.def_tree.specs.Fault.{Spot, fault_at, first_spot}
use Rattle.def_tree.specs.Limits.{Deep, Long, Entry}
use Rattle.def_built.specs.Built.{not_built}
use Rattle.def_built.specs.Told.{answer_by, then_built, told_in}
use Rattle.def_module.specs.DeclTree.{ModuleTree}
use Rattle.def_module.specs.Syntax.{Answer, Good, Bad, AreRefused, HasSyntax, IsSyntax, is_good, is_lexical}
use Rattle.def_module.specs.Syntax.{is_refused, is_twice, of_tokens}
use Rattle.def_syntax.specs.Syntax.{syntax_in}
use Rattle.law_syntax.proofs.Telling.{syntax_is_told}

-- the code of a fault has a text for its number of arguments
abbrev HasText : Fault → Type 0
HasText fault = IsTrue (takes fault.code (length fault.args))

-- ---- lexical faults

-- the code of a piece with a fault has a text
abbrev IsText : ℕ → List ℕ → Type 0
IsText code bytes = IsTrue (takes code (length (args_of code bytes)))

-- a verdict that is a fault has a code with a text
abbrev TextOf : Verdict → List ℕ → Type 0
TextOf verdict bytes = (code : ℕ) → verdict ≡ IsFault code → IsText code bytes

-- what is said of the verdict on a word, by what is asked of it
abbrev word_by : Bool → Bool → Bool → Bool → Verdict
word_by keyword name number digit =
    if keyword then IsToken lexical.Keyword
    else if name then IsToken lexical.Name
    else if number then IsToken lexical.Number
    else if digit then IsFault 103
    else IsFault 104

word_text : (keyword name number digit : Bool) (bytes : List ℕ) → TextOf (word_by keyword name number digit) bytes
word_text true name number digit bytes code is = absurd (cc)
word_text false true number digit bytes code is = absurd (cc)
word_text false false true digit bytes code is = absurd (cc)
word_text false false false true bytes code is = subst (λ c. IsText c bytes) (let same : 103 ≡ code = cc in same) refl
word_text false false false false bytes code is = subst (λ c. IsText c bytes) (let same : 104 ≡ code = cc in same) refl

verdict_text : (class : Class) (bytes : List ℕ) → TextOf (verdict_of class bytes) bytes
verdict_text Space bytes code is = absurd (cc)
verdict_text Comment bytes code is = absurd (cc)
verdict_text OpenComment bytes code is = subst (λ c. IsText c bytes) (let same : 102 ≡ code = cc in same) refl
verdict_text Word bytes code is =
    word_text (is_keyword bytes) (is_name bytes) (is_some (number_of bytes)) (is_ascii_digit (slice_index bytes 0))
    bytes code is
verdict_text Quoted bytes code is = absurd (cc)
verdict_text OpenQuoted bytes code is = subst (λ c. IsText c bytes) (let same : 105 ≡ code = cc in same) refl
verdict_text Symbol bytes code is = absurd (cc)
verdict_text Stray bytes code is = subst (λ c. IsText c bytes) (let same : 101 ≡ code = cc in same) refl

lexical_text : (text : List ℕ) (fault : Fault) → HasLexicalFault text fault → HasText fault
lexical_text text fault has =
    subst (λ (args : List (List ℕ)). IsTrue (takes fault.code (length args))) (sym has.args_are)
    (verdict_text has.piece.class has.piece.bytes fault.code has.faulty)

-- ---- tokens that are no module

spot_text : (from many : ℕ) (entries : List Entry) (token : Token)
    → HasText (fault_at (first_spot from many entries).code token)
spot_text from zero entries token = refl
spot_text from (suc many) [] token = spot_text (suc from) many [] token
spot_text from (suc many) (None ∷ entries) token = spot_text (suc from) many entries token
spot_text from (suc many) (Some Deep ∷ entries) token = refl
spot_text from (suc many) (Some Long ∷ entries) token = refl

refused_text : (tokens : List Token) (fault : Fault) → AreRefused tokens fault → HasText fault
refused_text tokens fault has =
    subst HasText (sym has.told)
    (subst (λ (spot : Spot). HasText (fault_at spot.code has.token)) has.refused.refused
    (spot_text 0 has.refused.many _ has.token))

-- ---- what is told of a text

-- where a fault is told, it has a text
abbrev pub HasTextIfBad : Answer → Type 0
HasTextIfBad (Good tree) = Unit {0}
HasTextIfBad (Bad fault) = HasText fault

tokens_text : (tokens : List Token) (answer : Answer) → IsSyntax tokens answer → HasTextIfBad answer
tokens_text tokens answer (is_good read once) = tt
tokens_text tokens answer (is_refused {fault = fault} refused) = refused_text tokens fault refused
tokens_text tokens answer (is_twice read is) = refl

answer_text : (text : List ℕ) (answer : Answer) → HasSyntax text answer → HasTextIfBad answer
answer_text text answer (is_lexical {fault = fault} has) = lexical_text text fault has
answer_text text answer (of_tokens {tokens = tokens} cut told) = tokens_text tokens answer told

-- and so has what is told of a form that is not checked yet
unbuilt_text : (tree : ModuleTree) (token : Option Token) → HasTextIfBad (answer_by token tree)
unbuilt_text tree None = tt
unbuilt_text tree (Some token) = refl

built_text : (answer : Answer) → HasTextIfBad answer → HasTextIfBad (then_built answer)
built_text (Good tree) has = unbuilt_text tree (not_built tree)
built_text (Bad fault) has = has

-- what is told of each text has a text
pub syntax_text : (text : List ℕ) → HasTextIfBad (told_in text)
syntax_text text =
    built_text (syntax_in text) (answer_text text (syntax_in text) ((syntax_is_told text (syntax_in text)).0 refl))
