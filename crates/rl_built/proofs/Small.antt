-- Which forms are small.
use Rattle.std.proofs.Common.{◌≡◌, ◌∙◌, refl, sym, ap, ℕ, ◌+◌, ◌-◌, ◌*◌, ◌<◌, ◌≤◌, min, length, get_or, take, Bool, true, false, cond, List, [], ◌∷◌, map, Option, Some, None, arith}
use Rattle.std.specs.Prelude.{◌↔◌, IsTrue, not, ◌&&◌, nat_le, find}
use Rattle.std.specs.Bool.{then_some}
use Rattle.std.specs.Char.{digit_value, is_ascii_digit}
use Rattle.std.specs.List.{list_all}
use Rattle.std.specs.Option.{option_map}
use Rattle.std.specs.Str.Parse.{digits_value}
use Rattle.std.proofs.lemmas.Int.Digits.{digits_value_more}
use Rattle.std.proofs.lemmas.Bool.Decides.{nat_tests}
use Rattle.std.proofs.lemmas.List.{take_all, take_more}
use Rattle.std.proofs.lemmas.List.Folds.{list_all-append}
use Rattle.def_token.specs.Lexical as lexical
use Rattle.def_tree.specs.ExprTree as exprs
use Rattle.def_tree.specs.TypeTree as types
use Rattle.def_module.specs.DeclTree as trees
use Rattle.def_module.specs.First.{decl_token}
use Rattle.def_built.specs.Built.{is_built, is_small_expr, is_small_number, is_small_type}
use Rattle.sl_token.specs.View.{token_in}
use Rattle.sl_token.specs.declared.token.Token.{Token}
use Rattle.sl_tree.specs.DeclView.{decl_in}
use Rattle.sl_tree.specs.declared.declarations.DeclTree.{DeclTree}
use Rattle.sl_tree.specs.View.{type_in, types_of}
use Rattle.sl_tree.specs.declared.types.TypeTree.{TypeTree}

-- what is not true
not_true : (b : Bool) → (IsTrue b → ⊥) → b ≡ false
not_true true h = absurd (h refl)
not_true false h = refl

-- a name is small without type arguments
pub small_name : (source : List ℕ) (name : lexical.Token) (args : List TypeTree) (b : Bool) → IsTrue b ↔ (args ≡ [])
    → b ≡ is_small_expr (exprs.Name name (types_of (map (type_in source) args)))
small_name source name [] b h = h.1 refl
small_name source name (arg ∷ args) b h = not_true b (λ is. let none : arg ∷ args ≡ [] = h.0 is in cc)

-- a word with names behind its dots is not small
pub long_word : (source : List ℕ) (word : types.TypeWord) (first : lexical.Token) (path : List Token) (b : Bool) → IsTrue b ↔ (path ≡ [])
    → b ≡ false → b ≡ is_small_type (types.Word word first (map (token_in source) path))
long_word source word first [] b h is = absurd (let one : b ≡ true = h.1 refl in cc)
long_word source word first (name ∷ path) b h is = is

-- a name with type arguments is not small
pub long_name : (source : List ℕ) (first : lexical.Token) (args : List TypeTree) (path : List Token) (b : Bool) → IsTrue b ↔ (args ≡ [])
    → b ≡ false → b ≡ is_small_type (types.Named first (types_of (map (type_in source) args)) (map (token_in source) path))
long_name source first [] path b h is = absurd (let one : b ≡ true = h.1 refl in cc)
long_name source first (arg ∷ args) path b h is = is

-- a name without type arguments is small where no names stand behind its dots
pub short_name : (source : List ℕ) (first : lexical.Token) (args : List TypeTree) (path : List Token) (b : Bool) → args ≡ [] → IsTrue b ↔ (path ≡ [])
    → b ≡ is_small_type (types.Named first (types_of (map (type_in source) args)) (map (token_in source) path))
short_name source first (arg ∷ args) path b none h = absurd (cc)
short_name source first [] [] b none h = h.1 refl
short_name source first [] (name ∷ path) b none h = not_true b (λ is. let other : name ∷ path ≡ [] = h.0 is in cc)

-- the value of digits that cannot grow past the greatest number
pub value_more : (text : List ℕ) (i value times sum : ℕ) → i < length text → digit_value (get_or text i 0) + 48 ≡ get_or text i 0
    → value ≡ min (digits_value 10 (take i text)) 4294967295
    → times ≡ min (value * 10) 4294967295 → sum ≡ min (times + (get_or text i 0 - 48)) 4294967295
    → sum ≡ min (digits_value 10 (take (i + 1) text)) 4294967295
value_more text i value times sum below digit before by plus =
    let more = digits_value_more 10 text i below in omega (arith, more)

-- digits behind digits
pub digits_more : (text : List ℕ) (i : ℕ) → i < length text → is_ascii_digit (get_or text i 0) ≡ true → list_all is_ascii_digit (take i text) ≡ true
    → list_all is_ascii_digit (take (i + 1) text) ≡ true
digits_more text i below digit before =
    ap (list_all is_ascii_digit) (take_more text i 0 below)
    ∙ list_all-append is_ascii_digit (take i text) (get_or text i 0 ∷ [])
    ∙ ap (λ b. b && (is_ascii_digit (get_or text i 0) && true)) before
    ∙ ap (λ b. b && true) digit

-- a function of a choice
choose_map : {A B : Type 0} (f : A → B) (b : Bool) (x : A) (o : Option A) → cond b (Some (f x)) (option_map f o) ≡ option_map f (cond b (Some x) o)
choose_map f true x o = refl
choose_map f false x o = refl

-- the first of a list that a function maps
pub find_map : {A B : Type 0} (test : B → Bool) (f : A → B) (xs : List A) → find test (map f xs) ≡ option_map f (find (λ x. test (f x)) xs)
find_map test f [] = refl
find_map test f (x ∷ xs) =
    ap (cond (test (f x)) (Some (f x))) (find_map test f xs) ∙ choose_map f (test (f x)) x (find (λ x. test (f x)) xs)

-- what is told where the first declaration that is not built is this
pub told_first : (source : List ℕ) (decls : List DeclTree) (first : Option DeclTree) → first ≡ find (λ decl. not (is_built (decl_in source decl))) decls
    → option_map decl_token (option_map (decl_in source) first) ≡ option_map decl_token (find (λ (decl : trees.DeclTree). not (is_built decl)) (map (decl_in source) decls))
told_first source decls first h =
    ap (option_map decl_token)
    (ap (option_map (decl_in source)) h ∙ sym (find_map (λ (decl : trees.DeclTree). not (is_built decl)) (decl_in source) decls))

-- the greatest number is more than the greatest int
at_most : (d value : ℕ) → value ≡ min d 4294967295 → nat_le value 2147483647 ≡ nat_le d 2147483647
at_most d value h = grind (arith, nat_tests)

-- digits are a small number where their value is
small_all : (text : List ℕ) (i value : ℕ) → length text ≤ i → list_all is_ascii_digit (take i text) ≡ true
    → value ≡ min (digits_value 10 (take i text)) 4294967295 → nat_le value 2147483647 ≡ is_small_number text
small_all text i value past digits is =
    let all = take_all i text past in
    at_most (digits_value 10 text) value (is ∙ ap (λ ds. min (digits_value 10 ds) 4294967295) all)
    ∙ ap (λ b. b && nat_le (digits_value 10 text) 2147483647) (sym digits ∙ ap (list_all is_ascii_digit) all)

-- a value that is small is that of the digits
same_value : (d value : ℕ) → value ≡ min d 4294967295 → nat_le value 2147483647 ≡ true → value ≡ d
same_value d value is small = grind (arith, nat_tests)

chosen : (d value : ℕ) (b : Bool) → nat_le value 2147483647 ≡ b → value ≡ min d 4294967295
    → then_some b value ≡ cond b (Some d) None
chosen d value true small is = ap Some (same_value d value is small)
chosen d value false small is = refl

-- the value of digits where they are a small number
pub value_all : (text : List ℕ) (i value : ℕ) → length text ≤ i → list_all is_ascii_digit (take i text) ≡ true
    → value ≡ min (digits_value 10 (take i text)) 4294967295
    → then_some (nat_le value 2147483647) value ≡ cond (is_small_number text) (Some (digits_value 10 text)) None
value_all text i value past digits is =
    chosen (digits_value 10 text) value (nat_le value 2147483647) refl
    (is ∙ ap (λ ds. min (digits_value 10 ds) 4294967295) (take_all i text past))
    ∙ ap (λ b. cond b (Some (digits_value 10 text)) None) (small_all text i value past digits is)
