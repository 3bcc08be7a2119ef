-- The readers of the heads of statements: what they read, and where the ways that they note come from.
use Rattle.std.proofs.Common.{◌≡◌, ℕ, Bool, true, false, List, [], ◌∷◌, ◌++◌, length, refl, sym, ap, subst, ◌∙◌, arith}
use Rattle.std.specs.Prelude.{Option, Some, None, ◌||◌, ◌&&◌}
use Rattle.std.proofs.lemmas.Bool.{false≢true}
use Prim.Native.String.{String}
use Rattle.def_token.specs.Lexical.{Token}
use Rattle.def_tree.specs.ExprTree.{ExprTree}
use Rattle.def_tree.specs.Limits.{Nesting, plain, opens, in_bracket, local_entries, simple_entries, start_entries, maybe_expr_entries, maybe_simple_entries, condition_entries}
use Rattle.def_tree.specs.Part.{type_goes_on, is_name_alone}
use Rattle.def_tree.specs.Statements.{begins_with, NoLocal, IsLocal, IsSimple, IsStart, without_start, with_local, with_simple, MayBeExpr, without_expr, with_expr, MayBeSimple, without_simple, with_step, IsCondition, of_brackets}
use Rattle.def_tree.specs.StmtTree as tree
use Rattle.def_tree.specs.StmtTree.{LocalTree, SimpleTree, StartTree}
use Rattle.def_tree.specs.Symbol.{symbol, is_sign, Is, IsName}
use Rattle.def_tree.specs.TypeTree.{TypeTree}
use Rattle.law_tree.proofs.Symbols.{is_sign-true}
use Rattle.def_reading.specs.Cursor.{Told, At, FarthestFailure}
use Rattle.def_reading.specs.StmtReading.{local_in, simple_in, values_behind, declares, local_up_to, simple_up_to, either_by, either_in, start_in, maybe_expr_in, maybe_simple_in, condition_in}
use Rattle.def_reading.specs.Try.{Reads, try_as, up_to, expr_in}
use Rattle.def_reading.specs.TypeReading.{Ended}
use Rattle.law_types.proofs.AheadComplete.{type_found}
use Rattle.law_stmts.proofs.Declares.{IsDeclared}
use Rattle.law_stmts.proofs.ExprTraces.{Wholes}
use Rattle.law_stmts.proofs.LocalTraced.{mark, Locals, expr_scratch, traces_value, traces_local}
use Rattle.law_machine.proofs.MachineCloses.{number}
use Rattle.law_machine.proofs.MachineGood.{Placed}
use Rattle.law_exprs.proofs.Quiet.{Kept, Fine, fine, kept_quiet, quiet}
use Rattle.law_stmts.proofs.SimpleTraced.{Undeclared, Sure, sure_mark, sure_new, Simples, simple_traced}
use Rattle.law_stmts.proofs.Spans.{in_type}
use Rattle.law_exprs.proofs.TryComes.{Noted}
use Rattle.law_exprs.proofs.TryHolds.{NotEnd}
use Rattle.law_exprs.proofs.TryTraces.{Language, Any, Free, After, UpTo, Traced, Traces, traced_as, traced_by, traced_choice, traced_token, traced_end, traced_up_to, traced_else}
use Rattle.law_stmts.proofs.Undeclared.{simple_out}

-- where a type, a name and `=` stand, this is found
name_behind : (type : TypeTree) (name : Token) (ts : List Token) → IsName name → type_goes_on type (name ∷ ts) ≡ false
name_behind type name ts n = name_by (is_name_alone type) name ts n
  where
    name_by : (b : Bool) (name : Token) (ts : List Token) → IsName name → (begins_with "." (name ∷ ts) || (b && begins_with "<" (name ∷ ts))) ≡ false
    name_by true name ts n = rw n refl
    name_by false name ts n = rw n refl

-- where a type, a name and `=` stand, the reader of locals alone goes on
declared_declares : (around : Nesting) (at : ℕ) (limit : Option Told) (tokens : List Token) → IsDeclared tokens → declares around (At at limit tokens) ≡ true
declared_declares around at limit tokens d =
    let f = type_found d.typed (name_behind d.type d.name (d.equals ∷ d.others) d.named) (length tokens) around.types at limit (omega arith) in
    ap values_behind f.found ∙ rw (d.named, d.marked) refl

-- where it does not go on alone, none stand
pub undeclared : (around : Nesting) (at : ℕ) (limit : Option Told) (tokens : List Token) → declares around (At at limit tokens) ≡ false → Undeclared tokens
undeclared around at limit tokens is d = false≢true (sym is ∙ declared_declares around at limit tokens d)

-- the languages of heads
abbrev pub Starts : Nesting → Language StartTree
Starts around tokens start es rest = IsStart tokens start rest × (es ≡ start_entries around start)

-- expressions up to a semicolon, or none
abbrev pub MaybeExprs : Nesting → Language (Option ExprTree)
MaybeExprs around tokens value es rest = MayBeExpr tokens value rest × (es ≡ maybe_expr_entries around value)

-- simple statements up to a bracket, or none
abbrev pub MaybeSimples : Nesting → Language (Option SimpleTree)
MaybeSimples around tokens simple es rest = MayBeSimple tokens simple rest × (es ≡ maybe_simple_entries around simple)

-- expressions in brackets
abbrev pub Conditions : Nesting → Language ExprTree
Conditions around tokens condition es rest = IsCondition tokens condition rest × (es ≡ condition_entries around condition)

-- a token is quiet if its sign is
quiet_is : (sign : String) (t : Token) → quiet (symbol (mark sign)) ≡ true → is_sign sign (symbol t) ≡ true → quiet (symbol t) ≡ true
quiet_is sign t h is = ap quiet (is_sign-true sign (symbol t) is) ∙ h

-- a token is in no type if its sign is not
out_is : (sign : String) (t : Token) → in_type (symbol (mark sign)) ≡ false → is_sign sign (symbol t) ≡ true → in_type (symbol t) ≡ false
out_is sign t h is = ap in_type (is_sign-true sign (symbol t) is) ∙ h

-- up to a mark that is in no expression
module _ (all : List Token) (sign : String) (some : NotEnd (is_sign sign)) (m_is : is_sign sign (symbol (mark sign)) ≡ true) (q : quiet (symbol (mark sign)) ≡ true) (out : in_type (symbol (mark sign)) ≡ false) (no_equal : is_sign "=" (symbol (mark sign)) ≡ false)
    (no_else : is_sign "else" (symbol (mark sign)) ≡ false) where
  pub expr_up_to : (around : Nesting) → Traces all (UpTo (is_sign sign) (Wholes around)) Any Free Free (λ reach place. up_to (is_sign sign) (expr_in false around reach place))
  expr_up_to around at limit tokens start b end n p =
      traced_up_to all (Wholes around) Any Fine Kept Free Free (is_sign sign) some (mark sign) m_is (λ rest h. fine (mark sign) rest q no_else) (λ t one other h. kept_quiet (t ∷ one) t other (quiet_is sign t q h)) (λ tokens rest. kept_quiet tokens (mark sign) rest q)
      start at limit tokens b (expr_in false around start (At at limit tokens)) n p (traces_value all around at limit tokens start b end n p)

  -- locals up to the mark
  pub local_to : (around : Nesting) → Traces all (UpTo (is_sign sign) (Locals around)) Any Free Free (λ reach place. up_to (is_sign sign) (local_in around reach place))
  local_to around at limit tokens start b end n p =
      traced_up_to all (Locals around) Any Fine Kept Free Free (is_sign sign) some (mark sign) m_is (λ rest h. fine (mark sign) rest q no_else) (λ t one other h. kept_quiet (t ∷ one) t other (quiet_is sign t q h)) (λ tokens rest. kept_quiet tokens (mark sign) rest q)
      start at limit tokens b (local_in around start (At at limit tokens)) n p (traces_local all around at limit tokens start b end n p)

  -- simple statements up to the mark
  pub simple_to : (around : Nesting) (at : ℕ) (limit : Option Told) (tokens : List Token) (start : Option FarthestFailure) (b : FarthestFailure) → Ended tokens → Noted at limit → Placed all at limit tokens
      → Traced all (UpTo (is_sign sign) (Simples all tokens around)) Any Free Free start at limit tokens b (up_to (is_sign sign) (simple_in around start (At at limit tokens)))
  simple_to around at limit tokens start b end n p =
      traced_up_to all (Simples all tokens around) Any Fine Sure Free Free (is_sign sign) some (mark sign) m_is (λ rest h. fine (mark sign) rest q no_else)
      (λ t one other h. sure_mark t one other (quiet_is sign t q h) (out_is sign t out h)) (λ tokens rest. sure_new tokens (mark sign) rest q no_equal out)
      start at limit tokens b (simple_in around start (At at limit tokens)) n p (simple_traced all tokens around at limit start b end n p)

module _ (all : List Token) (around : Nesting) {A : Type 0} (of_local : LocalTree → A) (of_simple : SimpleTree → A) (Q : Language A)
    (a_local : (tokens : List Token) (local : LocalTree) (semicolon : Token) (rest : List Token) → IsLocal tokens local (semicolon ∷ rest) → Is ";" semicolon → Q tokens (of_local local) (local_entries around local ++ plain ∷ []) rest)
    (a_simple : (tokens : List Token) (simple : SimpleTree) (semicolon : Token) (rest : List Token) → IsSimple tokens simple (semicolon ∷ rest) → Is ";" semicolon → NoLocal tokens → Q tokens (of_simple simple) (simple_entries around simple ++ plain ∷ []) rest) where
  local_traced : Traces all Q Any Free Free (local_up_to of_local around)
  local_traced at limit tokens start b end n p =
      traced_as all of_local (UpTo (is_sign ";") (Locals around)) Q Any Free Free start at limit tokens b (up_to (is_sign ";") (local_in around start (At at limit tokens)))
      (λ tokens local es rest q. subst (λ es. Q tokens (of_local local) es rest) (ap (λ es. es ++ plain ∷ []) (sym q.part.1) ∙ sym q.are) (a_local tokens local q.mark rest q.part.0 (is_sign-true ";" (symbol q.mark) q.passes)))
      (local_to all ";" refl refl refl refl refl refl around at limit tokens start b end n p)

  -- a simple statement up to a semicolon that is no local
  simple_up : (at : ℕ) (limit : Option Told) (tokens : List Token) (start : Option FarthestFailure) (b : FarthestFailure) → Ended tokens → Noted at limit → Placed all at limit tokens → Undeclared tokens
      → Traced all Q Any Free Free start at limit tokens b (simple_up_to of_simple around start (At at limit tokens))
  simple_up at limit tokens start b end n p u =
      traced_as all of_simple (UpTo (is_sign ";") (Simples all tokens around)) Q Any Free Free start at limit tokens b (up_to (is_sign ";") (simple_in around start (At at limit tokens)))
      (λ ts simple es rest q.
      let semicolon = is_sign-true ";" (symbol q.mark) q.passes in
      subst (λ es. Q ts (of_simple simple) es rest) (ap (λ es. es ++ plain ∷ []) (sym q.part.entries_are) ∙ sym q.are)
      (a_simple ts simple q.mark rest q.part.simple' semicolon (simple_out q.mark q.part.simple' semicolon (q.part.undeclared u))))
      (simple_to all ";" refl refl refl refl refl refl around at limit tokens start b end n p)

  -- a local alone, or a local or else a simple statement
  either_by_traced : (c : Bool) (at : ℕ) (limit : Option Told) (tokens : List Token) (start : Option FarthestFailure) (b : FarthestFailure) → declares around (At at limit tokens) ≡ c → Ended tokens → Noted at limit → Placed all at limit tokens
      → Traced all Q Any Free Free start at limit tokens b (either_by c of_local of_simple around start (At at limit tokens))
  either_by_traced true at limit tokens start b is end n p = local_traced at limit tokens start b end n p
  either_by_traced false at limit tokens start b is end n p =
      traced_else all Q Any Free Free (simple_up_to of_simple around) start at limit tokens b (local_up_to of_local around start (At at limit tokens)) (local_traced at limit tokens start b end n p)
      (λ reach. simple_up at limit tokens reach b end n p (undeclared around at limit tokens is))

  -- a local, or else a simple statement
  pub traces_either : Traces all Q Any Free Free (either_in of_local of_simple around)
  traces_either at limit tokens start b end n p = either_by_traced (declares around (At at limit tokens)) at limit tokens start b refl end n p

module _ (all : List Token) where
  -- what a `for` begins with
  pub traces_start : (around : Nesting) → Traces all (Starts around) Any Free Free (start_in around)
  traces_start around at limit tokens start b end n p =
      traced_choice all (Starts around) Any Free Free Free (is_sign ";") plain (λ semicolon reach place. Reads tree.NoStart place reach) (either_in tree.LocalStart tree.SimpleStart around) refl (λ t one other h k. tt) start at limit tokens b end n p
      (λ t h at' limit' rest reach b end' n' p'. traced_end all (After t plain (Starts around)) Any Free Free tree.NoStart reach at' limit' rest b end' (λ other k. (without_start (is_sign-true ";" (symbol t) h), refl)) (λ other k. tt))
      (λ no'. traces_either all around tree.LocalStart tree.SimpleStart (Starts around) (λ ts local s rest l h. (with_local l h, refl)) (λ ts simple s rest p h out. (with_simple p h out, refl)) at limit tokens start b end n p)

  -- an expression up to a semicolon, or none
  pub traces_maybe_expr : (around : Nesting) → Traces all (MaybeExprs around) Any Free Free (maybe_expr_in around)
  traces_maybe_expr around at limit tokens start b end n p =
      traced_choice all (MaybeExprs around) Any Free Free Free (is_sign ";") plain (λ semicolon reach place. Reads None place reach) (λ reach place. try_as Some (up_to (is_sign ";") (expr_in false around reach place))) refl (λ t one other h k. tt)
      start at limit tokens b end n p
      (λ t h at' limit' rest reach b end' n' p'. traced_end all (After t plain (MaybeExprs around)) Any Free Free None reach at' limit' rest b end' (λ other k. (without_expr (is_sign-true ";" (symbol t) h), refl)) (λ other k. tt))
      (λ no'.
      traced_as all Some (UpTo (is_sign ";") (Wholes around)) (MaybeExprs around) Any Free Free start at limit tokens b (up_to (is_sign ";") (expr_in false around start (At at limit tokens)))
      (λ ts e es rest q. (with_expr q.part.0 (is_sign-true ";" (symbol q.mark) q.passes), q.are ∙ ap (λ es. es ++ plain ∷ []) q.part.1)) (expr_up_to all ";" refl refl refl refl refl refl around at limit tokens start b end n p))

  -- a simple statement up to a bracket, or none
  pub traces_maybe_simple : (around : Nesting) → Traces all (MaybeSimples around) Any Free Free (maybe_simple_in around)
  traces_maybe_simple around at limit tokens start b end n p =
      traced_choice all (MaybeSimples around) Any Free Free Free (is_sign ")") plain (λ closing reach place. Reads None place reach) (λ reach place. try_as Some (up_to (is_sign ")") (simple_in around reach place))) refl (λ t one other h k. tt)
      start at limit tokens b end n p
      (λ t h at' limit' rest reach b end' n' p'. traced_end all (After t plain (MaybeSimples around)) Any Free Free None reach at' limit' rest b end' (λ other k. (without_simple (is_sign-true ")" (symbol t) h), refl)) (λ other k. tt))
      (λ no'.
      traced_as all Some (UpTo (is_sign ")") (Simples all tokens around)) (MaybeSimples around) Any Free Free start at limit tokens b (up_to (is_sign ")") (simple_in around start (At at limit tokens)))
      (λ ts simple es rest q. (with_step q.part.simple' (is_sign-true ")" (symbol q.mark) q.passes), q.are ∙ ap (λ es. es ++ plain ∷ []) q.part.entries_are)) (simple_to all ")" refl refl refl refl refl refl around at limit tokens start b end n p))

  -- an expression in brackets
  pub traces_condition : (around : Nesting) → Traces all (Conditions around) Any Free Free (condition_in around)
  traces_condition around at limit tokens start b end n p =
      let inside = in_bracket around in
      let e = opens inside.brackets in
      let s = expr_scratch inside in
      traced_token all (Conditions around) Any Free Free Free (is_sign "(") e (λ opening reach place. up_to (is_sign ")") (expr_in false inside reach place)) refl (λ t one other h k. tt) start at limit tokens b end n p
      (λ t h at' limit' rest reach b end' n' p'.
      traced_by all (UpTo (is_sign ")") (Wholes inside)) (After t e (Conditions around)) Any Free Free reach at' limit' rest b (up_to (is_sign ")") (expr_in false inside reach (At at' limit' rest)))
      (λ ts c es rest q. (of_brackets (is_sign-true "(" (symbol t) h) q.part.0 (is_sign-true ")" (symbol q.mark) q.passes), ap (λ es. e ∷ es) q.are ∙ ap (λ es. e ∷ (es ++ plain ∷ [])) q.part.1))
      (expr_up_to all ")" refl refl refl refl refl refl inside at' limit' rest reach b end' n' p'))
      (record {
        tokens = mark "(" ∷ number ∷ mark ")" ∷ [];
        tree = s.tree;
        entries = e ∷ plain ∷ plain ∷ [];
        whole = λ rest h. (of_brackets refl (s.whole (mark ")" ∷ rest) (fine (mark ")") rest refl refl)).0 refl, refl);
        before = λ rest h. tt;
      })
      (λ rest h. tt)
