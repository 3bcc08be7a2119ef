-- The definitions computed on small modules.
use Rattle.std.specs.Prelude.{◌≡◌, negsuc, ℕ, ◌++◌, List, [], ◌∷◌, length, codes, refl, unwrap_or}
use Rattle.sl_base.specs.declared.diag.Diag.{Diag}
use Rattle.sl_base.specs.declared.diag.Site.TheVariants.{Request}
use Rattle.sl_key.specs.Names.{path_in}
use Rattle.sl_key.specs.Flow.{Facts}
use Rattle.sl_key.specs.Order.{key_cmp, module_key, path_key}
use Rattle.sl_key.specs.declared.answer.Answer.{Answer}
use Rattle.sl_key.specs.declared.answer.Answer.TheVariants.{Good, Bad, Circular}
use Rattle.sl_key.specs.declared.answer.Good.TheVariants as held
use Rattle.sl_key.specs.declared.value.Value.TheVariants.{Int, Uint}
use Rattle.sl_key.specs.declared.key.Key.{Key}
use Rattle.sl_key.specs.declared.key.Kind.TheVariants.{Syntax, Imports, Alias, Const}
use Rattle.sl_key.specs.declared.request.Request.TheVariants.{Make}
use Rattle.sl_key.specs.declared.request.Term.TheVariants.{Load}
use Rattle.def_query.specs.Map.{get}
use Rattle.def_query.specs.declared.step.Step.{Step}
use Rattle.def_query.specs.declared.step.Step.TheVariants.{Needs, Done}
use Rattle.def_token.specs.Lexed.{lexed}
use Rattle.def_syntax.specs.Syntax.{syntax_in}
use Rattle.def_sources.specs.Sources.{Sources}
use Rattle.def_check.specs.Body.{body_of}
use Rattle.def_check.specs.Reply.{told_for}
use Rattle.def_check.specs.Syntax.{diagnostic}

-- a module `m` with these lines
abbrev line : List ℕ
line = 10 ∷ []

abbrev source : List ℕ → Sources
source text = record { modules = (codes "m", text) ∷ []; absent = [] }

abbrev after : Key → Step Key Answer → Facts → Facts
after key (Done answer) facts = (key, answer) ∷ facts
after key (Needs need) facts = facts

-- the answers of keys that are worked out in this order
abbrev worked : Sources → List Key → Facts → Facts
worked sources [] facts = facts
worked sources (key ∷ keys) facts = worked sources keys (after key (body_of sources key facts) facts)

abbrev answer_in : Facts → Key → Answer
answer_in facts key = unwrap_or (get key_cmp facts key) (Bad (record { site = Request; code = 0; args = [] }))

abbrev told : Sources → Facts → List Diag
told sources facts = told_for sources (answer_in facts) (Make (Load (codes "m")))

-- a diagnostic of `m`
abbrev at : ℕ → ℕ → ℕ → List (List ℕ) → Diag
at line column = diagnostic (codes "m") (record { line = line; column = column })

abbrev syntax : Key
syntax = module_key Syntax (codes "m")

abbrev imports : Key
imports = module_key Imports (codes "m")

abbrev alias : List ℕ → Key
alias name = path_key Alias (path_in (codes "m") name)

abbrev const : List ℕ → Key
const name = path_key Const (path_in (codes "m") name)

-- a bool is no int
abbrev one_bad : Sources
one_bad = source (codes "static const int K = true;")

abbrev one_bad_facts : Facts
one_bad_facts = worked one_bad (syntax ∷ imports ∷ const (codes "K") ∷ []) []

one_bad_row : told one_bad one_bad_facts ≡ at 1 22 302 (codes "bool" ∷ codes "int" ∷ []) ∷ []
unfolding lexed syntax_in
one_bad_row = refl

one_bad_worked : length one_bad_facts ≡ 3
unfolding lexed syntax_in
one_bad_worked = refl

-- a constant that uses it tells the same, and it is told once
abbrev used_bad : Sources
used_bad = source (codes "static const int K = true;" ++ line ++ codes "static const int L = K;")

abbrev used_bad_facts : Facts
used_bad_facts = worked used_bad (syntax ∷ imports ∷ const (codes "K") ∷ const (codes "L") ∷ []) []

used_bad_row : told used_bad used_bad_facts
    ≡ at 1 22 302 (codes "bool" ∷ codes "int" ∷ []) ∷ at 1 22 302 (codes "bool" ∷ codes "int" ∷ []) ∷ []
unfolding lexed syntax_in
used_bad_row = refl

used_bad_worked : length used_bad_facts ≡ 4
unfolding lexed syntax_in
used_bad_worked = refl

-- two constants that use each other
abbrev two_round : Sources
two_round = source (codes "static const int A = B + 1;" ++ line ++ codes "static const int B = A;")

abbrev two_round_cycle : Answer
two_round_cycle = Circular (const (codes "A") ∷ const (codes "B") ∷ [])

abbrev two_round_facts : Facts
two_round_facts =
    (const (codes "A"), two_round_cycle) ∷ (const (codes "B"), two_round_cycle)
    ∷ worked two_round (syntax ∷ imports ∷ []) []

two_round_needs : body_of two_round (const (codes "A")) (worked two_round (syntax ∷ []) []) ≡ Needs (const (codes "B"))
unfolding lexed syntax_in
two_round_needs = refl

two_round_back : body_of two_round (const (codes "B")) (worked two_round (syntax ∷ []) []) ≡ Needs (const (codes "A"))
unfolding lexed syntax_in
two_round_back = refl

two_round_row : told two_round two_round_facts
    ≡ at 1 18 901 (codes "m.A" ∷ codes "m.B" ∷ []) ∷ at 1 18 901 (codes "m.A" ∷ codes "m.B" ∷ []) ∷ []
unfolding lexed syntax_in
two_round_row = refl

-- an alias that leads to a cycle of two others
abbrev three_round : Sources
three_round = source (codes "typealias A = B;" ++ line ++ codes "typealias B = A;" ++ line ++ codes "typealias C = A;")

abbrev three_round_cycle : Answer
three_round_cycle = Circular (alias (codes "A") ∷ alias (codes "B") ∷ [])

three_round_handed_on :
    body_of three_round (alias (codes "C"))
    ((alias (codes "A"), three_round_cycle) ∷ worked three_round (syntax ∷ []) [])
    ≡ Done three_round_cycle
unfolding lexed syntax_in
three_round_handed_on = refl

three_round_row :
    told three_round
    ((alias (codes "A"), three_round_cycle) ∷ (alias (codes "B"), three_round_cycle)
    ∷ (alias (codes "C"), three_round_cycle)
    ∷ worked three_round (syntax ∷ imports ∷ []) [])
    ≡ at 1 11 901 (codes "m.A" ∷ codes "m.B" ∷ []) ∷ at 1 11 901 (codes "m.A" ∷ codes "m.B" ∷ [])
    ∷ at 1 11 901 (codes "m.A" ∷ codes "m.B" ∷ []) ∷ []
unfolding lexed syntax_in
three_round_row = refl

-- what is told of one line alone, whose constants and aliases are worked out in this order
abbrev line_told : List ℕ → List Key → List Diag
line_told text keys = told (source text) (worked (source text) (syntax ∷ imports ∷ keys) [])

twice_row : line_told (codes "typealias A = int; static const int A = 1;") [] ≡ at 1 37 120 (codes "A" ∷ []) ∷ []
unfolding lexed syntax_in
twice_row = refl

-- a byte that begins no token
stray_row : line_told (codes "typealias # = int;") [] ≡ at 1 11 101 (codes "23" ∷ []) ∷ []
unfolding lexed syntax_in
stray_row = refl

-- a declaration that goes on otherwise than the grammar says
unexpected_row : line_told (codes "typealias A int;") [] ≡ at 1 13 110 (codes "int" ∷ []) ∷ []
unfolding lexed syntax_in
unexpected_row = refl

other_form_row : line_told (codes "int f() { return 1; }") [] ≡ at 1 1 100 [] ∷ []
unfolding lexed syntax_in
other_form_row = refl

-- the first declaration with a form that is not checked yet, though its name is used before
later_form_row : line_told (codes "static const int K = N; static const int N = 1 / 2; int f() { }") []
    ≡ at 1 25 100 [] ∷ []
unfolding lexed syntax_in
later_form_row = refl

-- a name that is declared twice is told before a form that is not checked yet
twice_first_row : line_told (codes "int f() { } typealias A = int; typealias A = int;") []
    ≡ at 1 42 120 (codes "A" ∷ []) ∷ []
unfolding lexed syntax_in
twice_first_row = refl

unknown_type_row : line_told (codes "typealias A = B;") (alias (codes "A") ∷ []) ≡ at 1 15 301 (codes "B" ∷ []) ∷ []
unfolding lexed syntax_in
unknown_type_row = refl

unknown_value_row : line_told (codes "static const int K = 1 + N;") (const (codes "K") ∷ [])
    ≡ at 1 26 301 (codes "N" ∷ []) ∷ []
unfolding lexed syntax_in
unknown_value_row = refl

not_a_type_row :
    line_told (codes "static const int K = 1; typealias A = K;") (const (codes "K") ∷ alias (codes "A") ∷ [])
    ≡ at 1 39 303 (codes "K" ∷ []) ∷ []
unfolding lexed syntax_in
not_a_type_row = refl

not_a_value_row :
    line_told (codes "typealias A = int; static const int K = A;") (alias (codes "A") ∷ const (codes "K") ∷ [])
    ≡ at 1 41 304 (codes "A" ∷ []) ∷ []
unfolding lexed syntax_in
not_a_value_row = refl

operator_row : line_told (codes "static const int K = 2 * (1 + true);") (const (codes "K") ∷ [])
    ≡ at 1 29 311 (codes "+" ∷ codes "bool" ∷ []) ∷ []
unfolding lexed syntax_in
operator_row = refl

-- a conversion stands at the first token of the whole expression
converted_row : line_told (codes "static const bool K = (1 + 2) * 3;") (const (codes "K") ∷ [])
    ≡ at 1 23 302 (codes "int" ∷ codes "bool" ∷ []) ∷ []
unfolding lexed syntax_in
converted_row = refl

-- the value that the constant `K` of one line has, where it is worked out after the syntax
abbrev value_of_k : List ℕ → Step Key Answer
value_of_k text = body_of (source text) (const (codes "K")) (worked (source text) (syntax ∷ []) [])

wrapped_int_row : value_of_k (codes "static const int K = 2147483647 + 1;")
    ≡ Done (Good (held.Const (Int (negsuc 2147483647))))
unfolding lexed syntax_in
wrapped_int_row = refl

wrapped_uint_row : value_of_k (codes "static const uint K = 0 - 1;") ≡ Done (Good (held.Const (Uint 4294967295)))
unfolding lexed syntax_in
wrapped_uint_row = refl

uint_literal_row : value_of_k (codes "static const uint K = 7;") ≡ Done (Good (held.Const (Uint 7)))
unfolding lexed syntax_in
uint_literal_row = refl

-- a name that is not worked out is needed, and what stands behind it is not read yet
abbrev product : Sources
product = source (codes "static const int K = A * B; static const int A = 1; static const int B = 1;")

needed_first_row : body_of product (const (codes "K")) (worked product (syntax ∷ []) [])
    ≡ Needs (const (codes "A"))
unfolding lexed syntax_in
needed_first_row = refl

absent_row : told_for (record { modules = []; absent = codes "q" ∷ [] }) (answer_in []) (Make (Load (codes "q")))
    ≡ record { site = Request; code = 201; args = codes "q" ∷ [] } ∷ []
unfolding lexed syntax_in
absent_row = refl
