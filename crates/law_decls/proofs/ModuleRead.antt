-- What is read as a module is one, and what is read of a module is exact.
use Rattle.std.proofs.Common.{◌≡◌, ℕ, true, List, [], ◌∷◌, ◌++◌, refl, sym, ap, subst, ◌∙◌, append_assoc}
use Rattle.std.specs.Prelude.{Option, Some, None, Ok, Err}
use Rattle.std.specs.List.{flat_map}
use Rattle.def_token.specs.Lexical.{Token}
use Rattle.def_tree.specs.Fault.{AtMostOne, IsRead}
use Rattle.def_tree.specs.Limits.{plain, all_open}
use Rattle.def_tree.specs.Symbol.{Symbol, Name, Number, Text, End, Sign, symbol}
use Rattle.def_module.specs.DeclTree.{ModuleTree}
use Rattle.def_module.specs.Entries.{maybe_entries, header_entries, decl_entries, module_entries}
use Rattle.def_module.specs.Module.{IsModule, of_module, IsEnd}
use Rattle.law_module.proofs.Covered.{modules_covered}
use Rattle.law_exprs.proofs.OneTree.{one_reading}
use Rattle.def_reading.specs.Cursor.{Told, At, FarthestFailure}
use Rattle.def_reading.specs.Try.{Try, Reads, Stops, read_by}
use Rattle.def_reading.specs.TypeReading.{Ended, Stop, Reading}
use Rattle.law_stmts.proofs.Alien.{Agree, at_mark, before}
use Rattle.law_stmts.proofs.LocalSound.{SoundAt}
use Rattle.law_stmts.proofs.PartTold.{ends_with, IsWhole, whole_read, whole_told}
use Rattle.law_stmts.proofs.StmtRead.{reads_same}
use Rattle.law_exprs.proofs.TryComes.{Comes, comes_with, comes_up_to}
use Rattle.law_exprs.proofs.TrySound.{Sound, sound_by, UpTo, sound_up_to}
use Rattle.def_decl_reading.specs.DeclReading.{module_form, module_in, module_of}
use Rattle.def_decl_reading.specs.Form.{ends, reads}
use Rattle.def_decl_reading.specs.Laws.{IsExactModule, ModulesAreRead}
use Rattle.law_decls.proofs.DeclComes.{module_arrives}
use Rattle.law_decls.proofs.DeclSound.{AreParts, module_sound}
use Rattle.law_decls.proofs.FormRead.{Given, form_read}
use Rattle.law_decls.proofs.FormStays.{form_stays}

-- the symbol is the end
pub end_is : (s : Symbol) → ends s ≡ true → s ≡ End
end_is Name h = absurd (cc)
end_is (Number wide) h = absurd (cc)
end_is Text h = absurd (cc)
end_is End h = refl
end_is (Sign text) h = absurd (cc)

ok_parts : (a b : ModuleTree) (x y : List Token) → ◌≡◌ {A = Reading ModuleTree} (Ok (a, x)) (Ok (b, y)) → (a ≡ b) × (x ≡ y)
ok_parts a b x y h = let same : ◌≡◌ {A = ModuleTree × List Token} (a, x) (b, y) = cc in (ap (λ (p : ModuleTree × List Token). p.0) same, ap (λ (p : ModuleTree × List Token). p.1) same)

err_ok : (stop : Stop) (found : ModuleTree × List Token) → ◌≡◌ {A = Reading ModuleTree} (Err stop) (Ok found) → ⊥
err_ok stop found h = cc

-- a header, declarations and the end are a module
pub parts_are : {tokens rest : List Token} {tree : ModuleTree} (end : Token) → AreParts tokens tree (end ∷ rest) → IsEnd end → IsModule tokens tree rest
parts_are {tree = tree} end p e = of_module {name = tree.name} {decls = tree.decls} p.header p.decls e

-- what is read is a module
pub module_is_sound : SoundAt IsModule module_in
module_is_sound at limit tokens reach =
    sound_by (UpTo (Given module_form tokens) ends) (IsModule tokens) (module_in reach (At at limit tokens))
    (λ tree rest u. parts_are u.mark (module_sound.sound tokens tree u.part.entries (u.mark ∷ rest) u.part.gives) (end_is (symbol u.mark) u.passes))
    (sound_up_to (Given module_form tokens) ends (reads module_form reach (At at limit tokens)) (form_read module_form at limit tokens reach))

-- the reader comes to the module
pub module_comes : {tokens rest : List Token} {tree : ModuleTree} → IsModule tokens tree rest → Comes module_in tokens tree (module_entries tree) rest
module_comes (of_module {end = end} {name = name} {decls = decls} h m e) =
    comes_with module_in _ _ (append_assoc (maybe_entries header_entries name) (flat_map (decl_entries (all_open 0)) decls) (plain ∷ []))
    (comes_up_to ends (reads module_form) end (rw e refl) (module_arrives end h m e).comes)

-- tokens are one module at most
pub one_module : AtMostOne IsModule
one_module tokens rest behind this other p q =
    one_reading module_in tokens rest behind this other _ _ (module_comes p) (module_comes q)

-- other tokens that are the same up to an end are the same module
pub record Stayed (us : List Token) (tree : ModuleTree) : Type 0 where
  pub rest : List Token
  pub part : IsModule us tree rest

first_same : {mark end : Token} {r r' rest us : List Token} → Agree mark r r' (end ∷ rest) us → (others : List Token) × (us ≡ end ∷ others)
first_same {r' = r'} at_mark = (r', refl)
first_same (before {us = us} a) = (us, refl)

pub module_stays : (mark : Token) → symbol mark ≡ End → (r r' tokens us rest : List Token) (tree : ModuleTree) → IsModule tokens tree rest → Agree mark r r' tokens us → Stayed us tree
module_stays mark is r r' tokens us rest tree (of_module {end = end} {name = name} {decls = decls} h m e) agree =
    let c = module_arrives end h m e in
    let k = form_stays mark is module_form r r' tokens (end ∷ rest) us tree _ c.gives agree in
    let first = first_same k.agree in
    let parts = module_sound.sound us tree _ k.rest' k.gives in
    record { rest = first.0; part = parts_are end (subst (AreParts us tree) first.1 parts) e }

no_other : (tokens more rest behind : List Token) (tree other : ModuleTree) → Ended tokens → IsModule tokens tree rest → IsModule (tokens ++ more) other behind → other ≡ tree
no_other tokens more rest behind tree other e m o =
    let end = ends_with tokens e in
    let stays = module_stays end.mark end.is_end [] more tokens (tokens ++ more) rest tree m (end.agree more) in
    (one_module (tokens ++ more) behind stays.rest other tree o stays.part).0

-- what is read is a module, and the place behind it has its first limit
whole_is : (tokens : List Token) (tree : ModuleTree) (at : ℕ) (limit : Option Told) (rest : List Token) (reach : Option FarthestFailure) → module_in None (At 0 None tokens) ≡ Reads tree (At at limit rest) reach
    → IsWhole IsModule module_entries tokens tree at limit rest
whole_is tokens tree at limit rest reach is =
    let part : IsModule tokens tree rest = subst (Sound (IsModule tokens)) is (module_is_sound 0 None tokens None) in
    let g = (module_comes part).comes 0 None None in
    record { part = part; passes = g.passes tt ∙ reads_same tree tree (At g.at g.limit rest) (At at limit rest) g.reach reach (sym g.is ∙ is) }

read_is : (tokens : List Token) (tree : ModuleTree) (at : ℕ) (rest : List Token) → IsWhole IsModule module_entries tokens tree at None rest → IsRead IsModule module_entries tokens tree rest
read_is tokens tree at rest w = whole_read IsModule module_entries modules_covered tokens tree at rest w

-- what is read, by what the reader comes to
read_only : (tokens : List Token) (look : Try ModuleTree) (tree : ModuleTree) (rest : List Token) → module_in None (At 0 None tokens) ≡ look
    → read_by look ≡ Ok (tree, rest) → IsRead IsModule module_entries tokens tree rest
read_only tokens (Reads tree' (At at None rest') reach) tree rest is h =
    let same = ok_parts tree' tree rest' rest h in
    subst (λ r. IsRead IsModule module_entries tokens tree r) same.1
    (subst (λ t. IsRead IsModule module_entries tokens t rest') same.0 (read_is tokens tree' at rest' (whole_is tokens tree' at None rest' reach is)))
read_only tokens (Reads tree' (At at (Some told) rest') reach) tree rest is h = absurd (err_ok (record { token = told.token; code = told.code }) (tree, rest) h)
read_only tokens (Stops None) tree rest is h = absurd (err_ok _ (tree, rest) h)
read_only tokens (Stops (Some reach)) tree rest is h = absurd (err_ok (record { token = reach.told.token; code = reach.told.code }) (tree, rest) h)

exact_by : (tokens : List Token) (tree : ModuleTree) (at : ℕ) (limit : Option Told) (rest : List Token) (reach : Option FarthestFailure) → Ended tokens → IsWhole IsModule module_entries tokens tree at limit rest
    → IsExactModule tokens (read_by (Reads tree (At at limit rest) reach))
exact_by tokens tree at None rest reach e w = read_is tokens tree at rest w
exact_by tokens tree at (Some told) rest reach e w = whole_told IsModule module_entries modules_covered no_other tokens tree at told rest e w

exact_each : (tokens : List Token) (tree : ModuleTree) (rest : List Token) → Ended tokens → IsModule tokens tree rest → IsExactModule tokens (module_of tokens)
exact_each tokens tree rest e m =
    let g = (module_comes m).comes 0 None None in
    subst (λ look. IsExactModule tokens (read_by look)) (sym g.is) (exact_by tokens tree g.at g.limit rest g.reach e (whole_is tokens tree g.at g.limit rest g.reach g.is))

pub modules_are_read : ModulesAreRead
modules_are_read = record { only = λ tokens tree rest h. read_only tokens (module_in None (At 0 None tokens)) tree rest refl h; each = exact_each }
