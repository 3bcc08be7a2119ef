-- How declarations are found by their names.
use Rattle.std.proofs.Common.{◌≡◌, ◌∙◌, refl, sym, ap, ℕ, ◌+◌, Bool, true, false, cond, List, [], ◌∷◌, ◌++◌, length, Option, Some, None, arith, nat_eq}
use Rattle.std.specs.Prelude.{find, nat_lt, slice_get}
use Rattle.std.specs.Cmp.Lexicographic.{pointwise, bytes_decides}
use Rattle.std.specs.List.{position_from, position_or_len}
use Rattle.std.specs.Map.{lookup}
use Rattle.std.specs.Option.{option_and_then, option_or}
use Rattle.std.specs.Str.{bytes_eq}
use Rattle.std.specs.declared.alloc.Global.{Global}
use Rattle.std.specs.declared.vec.Vec.{Vec}
use Rattle.std.proofs.lemmas.Bool.Decides.{nat_tests}
use Rattle.std.proofs.lemmas.Iterator.Adapters.{position_from-zero}
use Rattle.std.proofs.lemmas.List.Folds.{find_at}
use Rattle.std.proofs.lemmas.Option.{slice_get_past}
use Rattle.std.proofs.lemmas.Slice.Eq.{bytes_eq-Decides}
use Rattle.def_token.specs.Lexical.{Token}
use Rattle.def_module.specs.DeclTree.{DeclTree}
use Rattle.sl_key.specs.Index.{Entry, IsIndex, number_in, number_of}
use Rattle.sl_key.specs.Names.{is_called, name_of, named_in}

or_none : {A : Type 0} (o : Option A) → option_or o None ≡ o
or_none None = refl
or_none (Some x) = refl

or_chosen : {A : Type 0} (b : Bool) (x : A) (o p : Option A)
    → cond b (Some x) (option_or o p) ≡ option_or (cond b (Some x) o) p
or_chosen true x o p = refl
or_chosen false x o p = refl

lookup_last : {K X : Type 0} (test : K → Bool) (entries : List (K × X)) (key : K) (value : X)
    → lookup test (entries ++ (key, value) ∷ []) ≡ option_or (lookup test entries) (cond (test key) (Some value) None)
lookup_last test [] key value = refl
lookup_last test (entry ∷ entries) key value =
    ap (cond (test entry.0) (Some entry.1)) (lookup_last test entries key value)
    ∙ or_chosen (test entry.0) entry.1 (lookup test entries) (cond (test key) (Some value) None)

position_last : {A : Type 0} (test : A → Bool) (from : ℕ) (xs : List A) (x : A)
    → position_from test from (xs ++ x ∷ [])
    ≡ option_or (position_from test from xs) (cond (test x) (Some (from + length xs)) None)
position_last test from [] x = ap (λ n. cond (test x) (Some n) None) (omega arith)
position_last test from (first ∷ xs) x =
    ap (cond (test first) (Some from)) (
    position_last test (from + 1) xs x
    ∙ ap (λ n. option_or (position_from test (from + 1) xs) (cond (test x) (Some n) None)) (omega arith)
    )
    ∙ or_chosen (test first) from (position_from test (from + 1) xs)
    (cond (test x) (Some (from + length (first ∷ xs))) None)

found_by : {A : Type 0} (xs : List A) (n : ℕ) (b : Bool) → nat_lt n (length xs) ≡ b
    → slice_get xs n ≡ option_and_then (slice_get xs) (cond b (Some n) None)
found_by xs n true h = refl
found_by xs n false h = slice_get_past xs n (grind (arith, nat_tests))

-- the first that passes a test stands where its number says
found_at : {A : Type 0} (test : A → Bool) (xs : List A)
    → find test xs ≡ option_and_then (slice_get xs) (position_from test 0 xs)
found_at test xs =
    find_at test xs
    ∙ found_by xs (position_or_len test xs) (nat_lt (position_or_len test xs) (length xs)) refl
    ∙ ap (option_and_then (slice_get xs)) (position_from-zero test xs)

-- the declaration of a name stands where the entries say
pub index_finds : (decls : List DeclTree) (entries : List Entry) (name : List ℕ) → IsIndex decls entries
    → named_in decls name ≡ option_and_then (slice_get decls) (number_in name entries)
index_finds decls entries name index =
    found_at (λ (decl : DeclTree). is_called name (name_of decl)) decls
    ∙ ap (option_and_then (slice_get decls)) (sym (index name))

-- the number of one declaration more
number_last : (decls : List DeclTree) (decl : DeclTree) (name : List ℕ) (called : Option Token) → name_of decl ≡ called
    → option_or (number_of decls name) (cond (is_called name called) (Some (length decls)) None)
    ≡ number_of (decls ++ decl ∷ []) name
number_last decls decl name called is =
    let number : length decls ≡ 0 + length decls = omega arith in
    ap (λ c. option_or (number_of decls name) (cond (is_called name c) (Some (length decls)) None)) (sym is)
    ∙ ap (λ n. option_or (number_of decls name) (cond (is_called name (name_of decl)) (Some n) None)) number
    ∙ sym (position_last (λ (other : DeclTree). is_called name (name_of other)) 0 decls decl)

-- a declaration without a name changes no number
pub index_unnamed : (decls : List DeclTree) (decl : DeclTree) (entries : List Entry) → name_of decl ≡ None
    → IsIndex decls entries → IsIndex (decls ++ decl ∷ []) entries
index_unnamed decls decl entries is index name =
    index name ∙ sym (or_none (number_of decls name)) ∙ number_last decls decl name None is

again : (decls : List DeclTree) (entries : List Entry) (text name : List ℕ) (number : ℕ) (b : Bool)
    → bytes_eq text name ≡ b
    → number_in text entries ≡ Some number → IsIndex decls entries
    → number_in name entries ≡ option_or (number_of decls name) (cond b (Some (length decls)) None)
again decls entries text name number true same has index =
    let alike = sym ((bytes_eq-Decides text name).0 same) in
    let is : number_in name entries ≡ Some number = ap (λ n. number_in n entries) alike ∙ has in
    is ∙ ap (λ o. option_or o (Some (length decls))) (sym is ∙ index name)
again decls entries text name number false other has index = index name ∙ sym (or_none (number_of decls name))

-- nor does a declaration with a name that another has
pub index_again : (decls : List DeclTree) (decl : DeclTree) (entries : List Entry) (token : Token) (number : ℕ)
    → name_of decl ≡ Some token
    → number_in token.text entries ≡ Some number → IsIndex decls entries → IsIndex (decls ++ decl ∷ []) entries
index_again decls decl entries token number is has index name =
    again decls entries token.text name number (bytes_eq token.text name) refl has index
    ∙ number_last decls decl name (Some token) is

added : (decls : List DeclTree) (entries : List Entry) (text name : List ℕ) (b : Bool) → bytes_eq text name ≡ b
    → number_in text entries ≡ None → IsIndex decls entries
    → cond b (Some (length decls)) (number_in name entries)
    ≡ option_or (number_of decls name) (cond b (Some (length decls)) None)
added decls entries text name true same lacks index =
    let alike = sym ((bytes_eq-Decides text name).0 same) in
    let none : number_in name entries ≡ None = ap (λ n. number_in n entries) alike ∙ lacks in
    ap (λ o. option_or o (Some (length decls))) (sym none ∙ index name)
added decls entries text name false other lacks index = index name ∙ sym (or_none (number_of decls name))

-- the entries have a number for a name that they did not have
abbrev pub HasNumber : List Entry → List ℕ → ℕ → List Entry → Type 0
HasNumber old text number new =
    (name : List ℕ) → number_in name new ≡ cond (bytes_eq text name) (Some number) (number_in name old)

-- a declaration with a name that no other has gets its number
pub index_grows : (decls : List DeclTree) (decl : DeclTree) (old new : List Entry) (token : Token) (text : List ℕ)
    (number : ℕ)
    → name_of decl ≡ Some token → text ≡ token.text → length decls ≡ number → number_in text old ≡ None
    → HasNumber old text number new
    → IsIndex decls old → IsIndex (decls ++ decl ∷ []) new
index_grows decls decl old new token text number is same count lacks has index name =
    has name
    ∙ ap (λ n. cond (bytes_eq text name) (Some n) (number_in name old)) (sym count)
    ∙ added decls old text name (bytes_eq text name) refl lacks index
    ∙ ap (λ t. option_or (number_of decls name) (cond (bytes_eq t name) (Some (length decls)) None)) same
    ∙ number_last decls decl name (Some token) is

entered : (old : List Entry) (text name : List ℕ) (number : ℕ) (b : Bool) → bytes_eq text name ≡ b
    → number_in text old ≡ None
    → option_or (number_in name old) (cond (pointwise nat_eq name text) (Some number) None)
    ≡ cond b (Some number) (number_in name old)
entered old text name number true same lacks =
    let is = (bytes_eq-Decides text name).0 same in
    let none : number_in name old ≡ None = ap (λ n. number_in n old) (sym is) ∙ lacks in
    ap (λ o. option_or o (cond (pointwise nat_eq name text) (Some number) None)) none
    ∙ ap (λ b. cond b (Some number) None) ((bytes_decides name text).1 (sym is))
entered old text name number false other lacks =
    ap (λ b. option_or (number_in name old) (cond b (Some number) None)) (unlike (pointwise nat_eq name text) refl)
    ∙ or_none (number_in name old)
  where
    unlike : (b : Bool) → pointwise nat_eq name text ≡ b → b ≡ false
    unlike true same =
        let alike = sym ((bytes_decides name text).0 same) in
        let is : bytes_eq text name ≡ true = (bytes_eq-Decides text name).1 alike in absurd (cc)
    unlike false same = refl

-- an entry behind the others is that of its name
pub entry_grows : (old : List Entry) (key : Vec ℕ Global) (text : List ℕ) (number : ℕ) → key.items ≡ text
    → number_in text old ≡ None
    → HasNumber old text number (old ++ (key, number) ∷ [])
entry_grows old key text number is lacks name =
    lookup_last (λ (other : Vec ℕ Global). pointwise nat_eq name other.items) old key number
    ∙ ap (λ items. option_or (number_in name old) (cond (pointwise nat_eq name items) (Some number) None)) is
    ∙ entered old text name number (bytes_eq text name) refl lacks
