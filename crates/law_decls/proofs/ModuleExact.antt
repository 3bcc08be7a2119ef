-- What is read of modules is exact.
use Rattle.std.proofs.Common.{◌≡◌, ⊎_elim, ℕ, ◌+◌, ◌≤◌, Bool, true, false, List, [], ◌∷◌, ◌++◌, length, refl, sym, ap, subst, ◌∙◌, arith, length-append}
use Rattle.std.specs.Prelude.{Option, Some, None}
use Rattle.def_token.specs.Lexical.{Token}
use Rattle.def_tree.specs.Fault.{spot_of}
use Rattle.def_tree.specs.Limits.{Entry, plain}
use Rattle.def_tree.specs.Symbol.{symbol}
use Rattle.def_module.specs.DeclTree.{ModuleTree}
use Rattle.def_module.specs.Entries.{module_entries}
use Rattle.def_module.specs.Module.{IsModule}
use Rattle.law_module.proofs.Covered.{modules_covered}
use Rattle.def_reading.specs.Cursor.{Told, At, before, FarthestFailure}
use Rattle.def_reading.specs.Try.{Try, Reads, Stops, Reader, try_then, refused, choice_by, up_to}
use Rattle.def_reading.specs.TypeReading.{Ended}
use Rattle.law_machine.proofs.MachineCloses.{ending}
use Rattle.law_machine.proofs.MachineGood.{Placed}
use Rattle.law_stmts.proofs.StmtExact.{stands_inside}
use Rattle.law_stmts.proofs.StmtOthers.{spot_walk, way_of}
use Rattle.law_stmts.proofs.StmtRead.{reads_same}
use Rattle.law_exprs.proofs.TryComes.{Comes, comes_up_to}
use Rattle.law_exprs.proofs.TryTraces.{Language, Any, Free, Scratch, Suffix, UpTo, Completes, Traced, traced_then, traced_refused}
use Rattle.def_decl_reading.specs.DeclReading.{module_form, module_in}
use Rattle.def_decl_reading.specs.Form.{ends, reads}
use Rattle.def_decl_reading.specs.Laws.{ModulesAreExact}
use Rattle.law_decls.proofs.DeclPredicts.{an_end, module_predicts}
use Rattle.law_decls.proofs.DeclSound.{module_sound}
use Rattle.law_decls.proofs.FormFirst.{range}
use Rattle.law_decls.proofs.FormGiven.{form_given}
use Rattle.law_decls.proofs.FormTraced.{Into, traces_form}
use Rattle.law_decls.proofs.Gives.{Gives}
use Rattle.law_decls.proofs.ModuleFaults.{IsReached, exact_by}
use Rattle.law_decls.proofs.ModuleRead.{module_comes, end_is, parts_are}
use Rattle.law_decls.proofs.Range.{In}

-- modules by their form, with the end
abbrev Wholes : Language ModuleTree
Wholes = UpTo ends (Gives module_form)

-- nothing is read behind declarations
abbrev no_more : ModuleTree → Reader ModuleTree
no_more tree = refused

-- the end in place of what is not read
abbrev end_scratch : (tree : ModuleTree) → Scratch (Suffix (Gives module_form) tree Wholes) Any (In an_end)
end_scratch tree =
    record {
      tokens = ending ∷ [];
      tree = tree;
      entries = plain ∷ [];
      whole = λ rest h ts front g. record { mark = ending; front = front; passes = refl; part = g; are = refl };
      before = λ rest h. refl;
    }

-- the same, whatever it begins with
abbrev any_scratch : (tree : ModuleTree) → Scratch (Suffix (Gives module_form) tree Wholes) Any Any
any_scratch tree = let s = end_scratch tree in record { tokens = s.tokens; tree = s.tree; entries = s.entries; whole = s.whole; before = λ rest h. tt }

-- where the reader stops before an end, or behind declarations
traced_stop : (tokens : List Token) (b : FarthestFailure) → Ended tokens
    → Traced tokens Wholes Any Free (Into (range an_end module_form)) None 0 None tokens b (try_then no_more (reads module_form None (At 0 None tokens)))
traced_stop tokens b end =
    let placed : Placed tokens 0 None tokens = record { front = []; are = refl; is_at = refl; stands = tt } in
    traced_then tokens (Gives module_form) Wholes Any (In an_end) (Into an_end) Free (Into (range an_end module_form)) no_more None 0 None tokens b (reads module_form None (At 0 None tokens)) tt placed end_scratch
    (λ tree at limit mid reach b end' n p. traced_refused tokens (Suffix (Gives module_form) tree Wholes) Any Free (Into an_end) reach at limit mid b p (any_scratch tree) (λ rest h. refl))
    (traces_form tokens module_form an_end module_predicts 0 None tokens None b end tt placed)

-- the reader of modules stops where nothing is read behind declarations
stop_by : (c : Bool) (tree : ModuleTree) (at : ℕ) (limit : Option Told) (t : Token) (ts : List Token) (reach : Option FarthestFailure) (b : FarthestFailure)
    → choice_by c plain (λ mark reach place. Reads tree place reach) refused reach t (At at limit (t ∷ ts)) ≡ Stops (Some b) → refused {A = ModuleTree} reach (At at limit (t ∷ ts)) ≡ Stops (Some b)
stop_by true tree at limit t ts reach b is = absurd (cc)
stop_by false tree at limit t ts reach b is = is

-- by what is read of declarations
stop_same : (look : Try ModuleTree) (b : FarthestFailure) → up_to ends look ≡ Stops (Some b) → try_then no_more look ≡ Stops (Some b)
stop_same (Stops reach) b is = is
stop_same (Reads tree (At at limit []) reach) b is = is
stop_same (Reads tree (At at limit (t ∷ ts)) reach) b is = stop_by (ends (symbol t)) tree at limit t ts reach b is

-- entries of one module by two ways tell one spot
same_spot : (n : ℕ) (ts : List Token) (t : Token) (tree : ModuleTree) (es others : List Entry) → n ≤ length ts → n ≤ length es → n ≤ length others → Comes module_in ts tree es [] → Comes module_in ts tree others [] → spot_of n es ≡ spot_of n others
same_spot n ts t tree es others few one two c d =
    let g = c.comes 0 None None in
    let k = d.comes 0 None None in
    let same = reads_same tree tree (At k.at k.limit []) (At g.at g.limit []) k.reach g.reach (sym k.is ∙ g.is) in
    let way = way_of (before (0 + n) g.limit) (0 + n) t [] in
    spot_walk es 0 n ts t [] few one (g.passes tt) way.0 way.1 ∙ sym (spot_walk others 0 n ts t [] few two (k.passes tt ∙ same) way.0 way.1)

-- a tree that goes as far is a module that continues the tokens
reached : (tokens : List Token) (b : FarthestFailure) → Completes tokens Wholes Any (Into (range an_end module_form)) 0 None tokens b → IsReached tokens b
reached tokens b c =
    let ts = c.front ++ (c.more ++ []) in
    let q = c.whole [] tt in
    let behind : In an_end (q.mark ∷ []) = rw (end_is (symbol q.mark) q.passes) refl in
    let part : IsModule ts c.tree [] = parts_are q.mark (module_sound.sound ts c.tree q.front (q.mark ∷ []) q.part) (end_is (symbol q.mark) q.passes) in
    let by_form : Comes module_in ts c.tree (q.front ++ plain ∷ []) [] =
    comes_up_to ends (reads module_form) q.mark q.passes (form_given module_form an_end false module_predicts ts c.tree q.front (q.mark ∷ []) q.part behind) in
    let few : length c.front ≤ length ts = omega (arith, length-append c.front (c.more ++ [])) in
    let covered = modules_covered ts [] c.tree part in
    record {
      front = c.front;
      tail = c.tail;
      more = c.more ++ [];
      rest = [];
      tree = c.tree;
      are = c.are;
      many = omega (arith, c.here);
      part = part;
      spot = same_spot (length c.front) ts q.mark c.tree (module_entries c.tree) (q.front ++ plain ∷ []) few (omega (arith, few, covered)) (omega (arith, c.room, ap length q.are)) (module_comes part) by_form
          ∙ ap (spot_of (length c.front)) (sym q.are) ∙ c.spot;
      inside = stands_inside tokens b.told.at b.told.token c.stands;
      stands = c.stands;
    }

-- no way is none
none_some : (b : FarthestFailure) → None ≡ Some b → ⊥
none_some b h = cc

-- where the reader stops a module goes as far
reached_by : (tokens : List Token) (b : FarthestFailure) (look : Try ModuleTree) → Traced tokens Wholes Any Free (Into (range an_end module_form)) None 0 None tokens b look → look ≡ Stops (Some b) → IsReached tokens b
reached_by tokens b look t is =
    ⊎_elim (λ h. absurd (none_some b h)) (λ c. reached tokens b c) (subst (Traced tokens Wholes Any Free (Into (range an_end module_form)) None 0 None tokens b) is t refl)

-- what is read of modules is the module, or what is told of the tokens
pub modules_are_exact : ModulesAreExact
modules_are_exact tokens end =
    exact_by tokens end
    (λ b is.
    let look = reads module_form None (At 0 None tokens) in
    reached_by tokens b (try_then no_more look) (traced_stop tokens b end) (stop_same look b is))
