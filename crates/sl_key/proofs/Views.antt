-- The declarations of a text, and those of the tree that stands for its tree.
use Rattle.std.proofs.Common.{◌≡◌, ◌∙◌, refl, sym, ap, subst, ℕ, suc, zero, ◌+◌, ◌<◌, List, [], ◌∷◌, ◌++◌, append_assoc, get_or, length, map, take, Option, Some, None}
use Rattle.std.specs.Prelude.{slice_get}
use Rattle.std.specs.List.{cons_option}
use Rattle.std.specs.Option.{IfSome, option_and_then, option_map, option_map_or}
use Rattle.std.proofs.lemmas.List.{map-append, take_more}
use Rattle.std.proofs.lemmas.List.Elements.{filter_map-append}
use Rattle.std.proofs.lemmas.Option.{slice_get-map, slice_get_read}
use Rattle.def_module.specs.DeclTree as trees
use Rattle.def_module.specs.Syntax.{Answer, Good}
use Rattle.def_syntax.specs.Syntax.{good_tree}
use Rattle.def_built.specs.Told.{told_in}
use Rattle.sl_tree.specs.DeclView.{decl_in, module_in}
use Rattle.sl_tree.specs.declared.declarations.DeclTree.{DeclTree}
use Rattle.sl_tree.specs.declared.declarations.ModuleTree.{ModuleTree}
use Rattle.sl_key.specs.Index.{AreNamed, Entry, IsIndex, IsNamed, number_in}
use Rattle.sl_key.specs.Names.{decls_in, key_of, keys_of, named_in}
use Rattle.sl_key.specs.declared.key.Key.{Key}
use Rattle.sl_key.proofs.Indexes.{index_finds}
use Rattle.sl_key.proofs.Naming.{text_built}

-- the declarations of a text of which nothing is told are those of its tree
pub decls_of : (text : List ℕ) (tree : ModuleTree) → told_in text ≡ Good (module_in text tree)
    → decls_in text ≡ map (decl_in text) tree.decls
decls_of text tree is =
    ap (λ (answer : Answer). option_map_or (λ (t : trees.ModuleTree). t.decls) (good_tree answer) [])
    (text_built text (module_in text tree) is).0

-- the declaration at a number is named, where all are
pub named_at : (text : List ℕ) (decls : List DeclTree) (number : ℕ) → AreNamed (map (decl_in text) decls)
    → IfSome (slice_get decls number) (λ (decl : DeclTree). IsNamed (decl_in text decl))
named_at text [] number named = tt
named_at text (decl ∷ decls) zero named = named.0
named_at text (decl ∷ decls) (suc number) named = named_at text decls number named.1

at_number : (text : List ℕ) (decls : List DeclTree) (number : Option ℕ)
    → option_and_then (slice_get (map (decl_in text) decls)) number
    ≡ option_map (decl_in text) (option_and_then (slice_get decls) number)
at_number text decls None = refl
at_number text decls (Some number) = slice_get-map (decl_in text) decls number

-- the declaration of a name stands where the entries say
pub found_in : (text : List ℕ) (tree : ModuleTree) (entries : List Entry) (name : List ℕ) (number : Option ℕ)
    → told_in text ≡ Good (module_in text tree) → IsIndex (map (decl_in text) tree.decls) entries
    → number_in name entries ≡ number
    → named_in (decls_in text) name ≡ option_map (decl_in text) (option_and_then (slice_get tree.decls) number)
found_in text tree entries name number is index has =
    ap (λ decls. named_in decls name) (decls_of text tree is)
    ∙ index_finds (map (decl_in text) tree.decls) entries name index
    ∙ ap (option_and_then (slice_get (map (decl_in text) tree.decls))) has
    ∙ at_number text tree.decls number

-- the declaration with a number is named, where all are
pub named_item : (text : List ℕ) (decls : List DeclTree) (number : ℕ) (decl : DeclTree)
    → AreNamed (map (decl_in text) decls)
    → number < length decls → decl ≡ get_or decls number decl → IsNamed (decl_in text decl)
named_item text decls number decl named below is =
    subst (λ o. IfSome o (λ (d : DeclTree). IsNamed (decl_in text d)))
    (slice_get_read decls (length decls) number decl refl below is) (named_at text decls number named)

-- the keys of the first declarations
abbrev pub first_keys : List ℕ → List ℕ → List DeclTree → ℕ → List Key
first_keys «module» text decls number = keys_of «module» (map (decl_in text) (take number decls))

-- the key of one declaration more stands behind theirs
keys_last : («module» text : List ℕ) (decls : List DeclTree) (number : ℕ) (decl : DeclTree) → number < length decls
    → first_keys «module» text decls (number + 1)
    ≡ first_keys «module» text decls number ++ cons_option (key_of «module» (decl_in text (get_or decls number decl))) []
keys_last «module» text decls number decl below =
    let item = get_or decls number decl in
    ap (λ ds. keys_of «module» (map (decl_in text) ds)) (take_more decls number decl below)
    ∙ ap (keys_of «module») (map-append (decl_in text) (take number decls) (item ∷ []))
    ∙ filter_map-append (key_of «module») (map (decl_in text) (take number decls)) (decl_in text item ∷ [])

-- keys that end with those of the first declarations, and the key of the next one
pub keys_more : («module» text : List ℕ) (decls : List DeclTree) (number : ℕ) (decl : DeclTree) (key : Option Key)
    (old now' new : List Key)
    → number < length decls → decl ≡ get_or decls number decl → key ≡ key_of «module» (decl_in text decl)
    → now' ≡ old ++ first_keys «module» text decls number → new ≡ now' ++ cons_option key []
    → new ≡ old ++ first_keys «module» text decls (number + 1)
keys_more «module» text decls number decl key old now' new below is key_is before grows =
    let keys = first_keys «module» text decls number in
    let last : key ≡ key_of «module» (decl_in text (get_or decls number decl)) =
    key_is ∙ ap (λ d. key_of «module» (decl_in text d)) is in
    grows
    ∙ ap (λ ks. ks ++ cons_option key []) before
    ∙ append_assoc old keys (cons_option key [])
    ∙ ap (λ k. old ++ (keys ++ cons_option k [])) last
    ∙ ap (λ ks. old ++ ks) (sym (keys_last «module» text decls number decl below))
