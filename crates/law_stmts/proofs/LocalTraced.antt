-- The readers of locals: what they read, and where the ways that they note come from.
use Rattle.std.proofs.Common.{◌≡◌, ℕ, suc, true, false, List, [], ◌∷◌, ◌++◌, length, refl, sym, ap, subst, ◌∙◌, codes}
use Rattle.std.specs.Prelude.{Option, Some, None}
use Prim.Native.String.{String}
use Rattle.def_token.specs.Lexical as lexical
use Rattle.def_token.specs.Lexical.{Token}
use Rattle.def_tree.specs.ExprTree as expr
use Rattle.def_tree.specs.ExprTree.{ExprTree, ExprTrees, NoExprs, MoreExprs}
use Rattle.def_tree.specs.Expressions.{IsExpr, of_binary, of_unary, of_postfix, of_primary, of_number, IsExprList, last_expr, more_exprs}
use Rattle.def_tree.specs.Limits.{Nesting, Entry, plain, type_entries, whole_entries, values_entries, more_values_entries, init_entries, maybe_init_entries, declarator_entries, declarators_entries, more_declarators_entries, maybe_type_entries, local_entries}
use Rattle.def_tree.specs.Statements.{binding_text, IsInit, of_value, of_no_fields, of_fields, MayHaveInit, without_init, with_init, AreDeclarators, last_declarator, more_declarators, MayHaveType, without_type, with_type, IsLocal, of_type, of_const, of_binding}
use Rattle.def_tree.specs.StmtTree as tree
use Rattle.def_tree.specs.StmtTree.{Binding, Let, Var, Declarator, InitTree, LocalTree}
use Rattle.def_tree.specs.Symbol.{symbol, is_sign, Is, IsName}
use Rattle.def_tree.specs.TypeTree.{TypeTree}
use Rattle.def_tree.specs.Types.{IsType}
use Rattle.law_tree.proofs.Symbols.{is_sign-true}
use Rattle.def_reading.specs.Cursor.{At}
use Rattle.def_reading.specs.StmtReading.{values_in, fields_in, init_in, maybe_init_in, declarator, declarator_in, with_more, declarators_in, typed_in, maybe_type_in, valued_in, inferred_in, local_in}
use Rattle.def_reading.specs.Try.{Reads, Reader, try_then, try_as, choice, up_to, listed, expr_in, type_in}
use Rattle.def_reading.specs.TypeAhead.{names}
use Rattle.law_types.proofs.AheadSound.{names-true}
use Rattle.law_stmts.proofs.ExprTraces.{Wholes}
use Rattle.law_stmts.proofs.ExprTraced.{traces_expr}
use Rattle.law_stmts.proofs.ListTraced.{traces_list}
use Rattle.law_machine.proofs.MachineCloses.{number, some_name}
use Rattle.law_exprs.proofs.Quiet.{Kept, Fine, Both, fine, kept_cons, kept_quiet, kept_name, quiet}
use Rattle.law_exprs.proofs.TryTraces.{Language, Any, Free, Scratch, Suffix, After, UpTo, Traces, traced_then, traced_as, traced_for, traced_choice, traced_token, traced_end, traced_up_to}
use Rattle.law_exprs.proofs.TypeTraced.{Types, traces_type}

-- a mark that touches nothing
abbrev pub mark : String → Token
mark text = record { kind = lexical.Mark; text = codes text; start = 0; end = 0; place = record { line = 1; column = 1 } }

-- an expression from nothing
abbrev pub expr_scratch : (around : Nesting) → Scratch (Wholes around) Fine Any
expr_scratch around =
    record {
      tokens = number ∷ [];
      tree = expr.Number number;
      entries = plain ∷ [];
      whole = λ rest h. (of_binary (of_unary (of_postfix (of_primary (of_number refl)))), refl);
      before = λ rest h. tt;
    }

-- a number in place of other tokens
pub number_kept : (tokens rest : List Token) → Kept tokens (number ∷ rest)
number_kept tokens rest = kept_quiet tokens number rest refl

-- the language of locals
abbrev pub Locals : Nesting → Language LocalTree
Locals around tokens local es rest = IsLocal tokens local rest × (es ≡ local_entries around local)

-- the languages of initialisers and declarators
abbrev Values : Nesting → Language ExprTrees
Values around tokens values es rest = IsExprList tokens values rest × (es ≡ values_entries around values)

-- initialisers
abbrev Inits : Nesting → Language InitTree
Inits around tokens init es rest = IsInit tokens init rest × (es ≡ init_entries around init)

-- initialisers with their mark, or none
abbrev MaybeInits : Nesting → Language (Option InitTree)
MaybeInits around tokens init es rest = MayHaveInit tokens init rest × (es ≡ maybe_init_entries around init)

record IsDeclarator (tokens : List Token) (d : Declarator) (rest : List Token) : Type 0 where
  behind : List Token
  are : tokens ≡ d.name ∷ behind
  named : IsName d.name
  init : MayHaveInit behind d.init rest

-- names with their initialisers
abbrev Ones : Nesting → Language Declarator
Ones around tokens d es rest = IsDeclarator tokens d rest × (es ≡ declarator_entries around d)

-- types with their mark, or none
abbrev MaybeTypes : Nesting → Language (Option TypeTree)
MaybeTypes around tokens type es rest = MayHaveType tokens type rest × (es ≡ maybe_type_entries around type)

-- declarators with commas between them
abbrev Declarators : Nesting → Language (List Declarator)
Declarators around tokens all es rest = AreDeclarators tokens all rest × (es ≡ declarators_entries around all)

-- the entries of values behind a comma
more_values : (around : Nesting) {tokens rest : List Token} {values : ExprTrees} → IsExprList tokens values rest → more_values_entries around values ≡ plain ∷ values_entries around values
more_values around (last_expr p) = refl
more_values around (more_exprs p c l) = refl

-- the entries of declarators behind a comma
more_declared : (around : Nesting) {tokens rest : List Token} {all : List Declarator} → AreDeclarators tokens all rest → more_declarators_entries around all ≡ plain ∷ declarators_entries around all
more_declared around (last_declarator n i) = refl
more_declared around (more_declarators n i c d) = refl

-- a declarator alone
last_declared : {tokens rest : List Token} {d : Declarator} → IsDeclarator tokens d rest → AreDeclarators tokens (d ∷ []) rest
last_declared {rest = rest} {d = d} p = subst (λ ts. AreDeclarators ts (d ∷ []) rest) (sym p.are) (last_declarator p.named p.init)

-- a declarator before others
next_declared : (comma : Token) {tokens mid rest : List Token} {d : Declarator} {others : List Declarator} → Is "," comma → IsDeclarator tokens d (comma ∷ mid) → AreDeclarators mid others rest → AreDeclarators tokens (d ∷ others) rest
next_declared comma {rest = rest} {d = d} {others = others} h p more = subst (λ ts. AreDeclarators ts (d ∷ others) rest) (sym p.are) (more_declarators p.named p.init h more)

-- a value
abbrev values_scratch : (around : Nesting) → Scratch (Values around) Fine Any
values_scratch around =
    let s = expr_scratch around in
    record {
      tokens = number ∷ [];
      tree = MoreExprs (expr.Number number) NoExprs;
      entries = plain ∷ [];
      whole = λ rest h. (last_expr (s.whole rest h).0, refl);
      before = λ rest h. tt;
    }

-- a name
abbrev declarators_scratch : (around : Nesting) → Scratch (Declarators around) Fine Any
declarators_scratch around =
    record {
      tokens = some_name ∷ [];
      tree = declarator some_name None ∷ [];
      entries = plain ∷ [];
      whole = λ rest h. (last_declarator refl without_init, refl);
      before = λ rest h. tt;
    }

module _ (all : List Token) where
  -- values with commas between them
  traces_values : (around : Nesting) (turns : ℕ) → Traces all (Values around) Fine Kept Kept (listed MoreExprs NoExprs (expr_in false around) turns)
  traces_values around turns =
      traces_list all (Wholes around) (Values around) MoreExprs NoExprs (expr_in false around) (narrowed around) (values_scratch around) (λ tokens rest h. number_kept tokens rest)
      (λ tokens a es rest p. (last_expr p.0, ap (λ es. es ++ []) p.1))
      (λ comma tokens a es mid c es' rest is p q. (
        more_exprs p.0 (is_sign-true "," (symbol comma) is) q.0,
        ap (λ es. es ++ plain ∷ es') p.1 ∙ ap (λ es. whole_entries around a ++ plain ∷ es) q.1 ∙ ap (λ es. whole_entries around a ++ es) (sym (more_values around q.0)),
      )) turns
    where
      narrowed : (around : Nesting) → Traces all (Wholes around) Fine Kept Kept (expr_in false around)
      narrowed around at limit tokens start b end n p =
          traced_for all (Wholes around) Fine Fine Kept Kept Both Kept (λ rest h. h) (λ rest other h. h) start at limit tokens b (expr_in false around start (At at limit tokens)) (λ other h. h.kept) (traces_expr all around at limit tokens start b end n p)

  -- an expression, whatever stood where it begins
  pub traces_value : (around : Nesting) → Traces all (Wholes around) Fine Kept Free (expr_in false around)
  traces_value around at limit tokens start b end n p =
      traced_for all (Wholes around) Fine Fine Kept Kept Both Free (λ rest h. h) (λ rest other h. h) start at limit tokens b (expr_in false around start (At at limit tokens)) (λ other h. tt) (traces_expr all around at limit tokens start b end n p)

  -- other tokens behind a mark
  quiet_mark : (sign : String) (t : Token) (one other : List Token) → quiet (symbol (mark sign)) ≡ true → is_sign sign (symbol t) ≡ true → Kept (t ∷ one) (t ∷ other)
  quiet_mark sign t one other h is = kept_quiet (t ∷ one) t other (ap quiet (is_sign-true sign (symbol t) is) ∙ h)

  -- the values of fields
  traces_fields : (around : Nesting) (opening : Token) → Is "{" opening → Traces all (After opening plain (Inits around)) Fine Kept Free (fields_in around opening)
  traces_fields around opening o at limit tokens start b end n p =
      let Q = After opening plain (Inits around) in
      let listing : Reader ExprTrees = values_in around in
      traced_choice all Q Fine Kept Free Free (is_sign "}") plain (λ closing reach place. Reads (tree.Fields opening NoExprs) place reach)
      (λ reach place. try_as (tree.Fields opening) (up_to (is_sign "}") (values_in around reach place))) refl (λ t one other h k. tt) start at limit tokens b end n p
      (λ closing h at' limit' rest reach b end' n' p'.
      traced_end all (After closing plain Q) Fine Kept Free (tree.Fields opening NoExprs) reach at' limit' rest b end' (λ other k. (of_no_fields o (is_sign-true "}" (symbol closing) h), refl)) (λ other k. tt))
      (λ no'.
      traced_as all (tree.Fields opening) (UpTo (is_sign "}") (Values around)) Q Fine Kept Free start at limit tokens b (up_to (is_sign "}") (values_in around start (At at limit tokens)))
      (λ tokens values es rest q. (of_fields o q.part.0 (is_sign-true "}" (symbol q.mark) q.passes), ap (λ es. plain ∷ es) q.are ∙ ap (λ es. plain ∷ (es ++ plain ∷ [])) q.part.1))
      (traced_up_to all (Values around) Fine Fine Kept Kept Free (is_sign "}") refl (mark "}") refl (λ rest h. fine (mark "}") rest refl refl) (λ t one other h. quiet_mark "}" t one other refl h)
      (λ tokens rest. kept_quiet tokens (mark "}") rest refl) start at limit tokens b (values_in around start (At at limit tokens)) n p
      (traced_for all (Values around) Fine Fine Kept Kept Kept Free (λ rest h. h) (λ rest other h. h) start at limit tokens b (values_in around start (At at limit tokens)) (λ other h. tt)
      (traces_values around (suc (length tokens)) at limit tokens start b end n p))))

  -- initialisers
  traces_init : (around : Nesting) → Traces all (Inits around) Fine Kept Free (init_in around)
  traces_init around at limit tokens start b end n p =
      traced_choice all (Inits around) Fine Kept Free Free (is_sign "{") plain (fields_in around) (λ reach place. try_as tree.Value (expr_in false around reach place)) refl (λ t one other h k. tt) start at limit tokens b end n p
      (λ opening h. traces_fields around opening (is_sign-true "{" (symbol opening) h))
      (λ no'.
      traced_as all tree.Value (Wholes around) (Inits around) Fine Kept Free start at limit tokens b (expr_in false around start (At at limit tokens)) (λ tokens e es rest q. (of_value q.0, q.1)) (traces_value around at limit tokens start b end n p))

  -- initialisers behind their mark, or none
  traces_maybe_init : (around : Nesting) → Traces all (MaybeInits around) Fine Kept Kept (maybe_init_in around)
  traces_maybe_init around at limit tokens start b end n p =
      traced_choice all (MaybeInits around) Fine Kept Free Kept (is_sign "=") plain (λ equals reach place. try_as Some (init_in around reach place)) (λ reach place. Reads None place reach) refl
      (λ t one other h k. quiet_mark "=" t one other refl h) start at limit tokens b end n p
      (λ equals h at' limit' rest reach b end' n' p'.
      traced_as all Some (Inits around) (After equals plain (MaybeInits around)) Fine Kept Free reach at' limit' rest b (init_in around reach (At at' limit' rest))
      (λ tokens init es rest q. (with_init (is_sign-true "=" (symbol equals) h) q.0, ap (λ es. plain ∷ es) q.1)) (traces_init around at' limit' rest reach b end' n' p'))
      (λ no'. traced_end all (MaybeInits around) Fine Kept Kept None start at limit tokens b end (λ other k. (without_init, refl)) (λ other k. k))

  -- a name with its initialiser
  traces_one : (around : Nesting) → Traces all (Ones around) Fine Kept Kept (declarator_in around)
  traces_one around at limit tokens start b end n p =
      traced_token all (Ones around) Fine Kept Kept Kept names plain (λ name reach place. try_as (declarator name) (maybe_init_in around reach place)) refl (λ t one other h k. kept_cons t one other k) start at limit tokens b end n p
      (λ name h at' limit' rest reach b end' n' p'.
      traced_as all (declarator name) (MaybeInits around) (After name plain (Ones around)) Fine Kept Kept reach at' limit' rest b (maybe_init_in around reach (At at' limit' rest))
      (λ tokens init es rest q. (record { behind = tokens; are = refl; named = names-true (symbol name) h; init = q.0 }, ap (λ es. plain ∷ es) q.1)) (traces_maybe_init around at' limit' rest reach b end' n' p'))
      (record { tokens = some_name ∷ []; tree = declarator some_name None; entries = plain ∷ []; whole = λ rest h. (record { behind = rest; are = refl; named = refl; init = without_init }, refl); before = λ rest h. tt })
      (λ rest h. kept_name tokens some_name rest refl h)

  -- declarators
  traces_declarators : (around : Nesting) → Traces all (Declarators around) Fine Kept Kept (declarators_in around)
  traces_declarators around at limit tokens start b end n p =
      traces_list all (Ones around) (Declarators around) with_more [] (declarator_in around) (traces_one around) (declarators_scratch around) (λ tokens rest h. kept_name tokens some_name rest refl h)
      (λ tokens a es rest q. (last_declared q.0, ap (λ es. es ++ []) q.1))
      (λ comma tokens a es mid c es' rest is q r. (
        next_declared comma (is_sign-true "," (symbol comma) is) q.0 r.0,
        ap (λ es. es ++ plain ∷ es') q.1 ∙ ap (λ es. declarator_entries around a ++ plain ∷ es) r.1 ∙ ap (λ es. declarator_entries around a ++ es) (sym (more_declared around r.0)),
      )) (suc (length tokens)) at limit tokens start b end n p

  -- a type, whatever follows it
  traces_declared : (around : Nesting) → Traces all (Declarators around) Fine Kept Free (declarators_in around)
  traces_declared around at limit tokens start b end n p =
      traced_for all (Declarators around) Fine Fine Kept Kept Kept Free (λ rest h. h) (λ rest other h. h) start at limit tokens b (declarators_in around start (At at limit tokens)) (λ other h. tt)
      (traces_declarators around at limit tokens start b end n p)

  -- locals with their type
  traces_typed : (around : Nesting) (word : Option Token) (Q : Language LocalTree)
      → ((tokens mid : List Token) (type : TypeTree) (ds : List Declarator) (es : List Entry) (rest : List Token) → IsType tokens type mid → AreDeclarators mid ds rest → es ≡ type_entries around.types type ++ declarators_entries around ds
      → Q tokens (tree.Typed word type ds) es rest)
      → Traces all Q Fine Kept Free (typed_in around word)
  traces_typed around word Q f at limit tokens start b end n p =
      traced_then all (Types around.types) Q Fine Any Free Kept Free (λ type reach place. try_as (tree.Typed word type) (declarators_in around reach place)) start at limit tokens b (type_in around start (At at limit tokens)) n p
      (λ type.
      let s = declarators_scratch around in
      record {
        tokens = s.tokens;
        tree = tree.Typed word type s.tree;
        entries = s.entries;
        whole = λ rest h tokens front q. f tokens (some_name ∷ rest) type s.tree (front ++ s.entries) rest q.0 (s.whole rest h).0 (ap (λ es. es ++ s.entries) q.1);
        before = λ rest h. tt;
      })
      (λ type at' limit' mid reach b end' n' p'.
      traced_as all (tree.Typed word type) (Declarators around) (Suffix (Types around.types) type Q) Fine Kept Free reach at' limit' mid b (declarators_in around reach (At at' limit' mid))
      (λ mid ds es rest r tokens front q. f tokens mid type ds (front ++ es) rest q.0 r.0 (ap (λ front. front ++ es) q.1 ∙ ap (λ es. type_entries around.types type ++ es) r.1))
      (traces_declared around at' limit' mid reach b end' n' p'))
      (traces_type all around at limit tokens start b end n p)

  -- types behind their mark, or none
  traces_maybe_type : (around : Nesting) → Traces all (MaybeTypes around) Any Free Free (maybe_type_in around)
  traces_maybe_type around at limit tokens start b end n p =
      traced_choice all (MaybeTypes around) Any Free Free Free (is_sign ":") plain (λ colon reach place. try_as Some (type_in around reach place)) (λ reach place. Reads None place reach) refl (λ t one other h k. tt) start at limit tokens b end n p
      (λ colon h at' limit' rest reach b end' n' p'.
      traced_as all Some (Types around.types) (After colon plain (MaybeTypes around)) Any Free Free reach at' limit' rest b (type_in around reach (At at' limit' rest))
      (λ tokens type es rest q. (with_type (is_sign-true ":" (symbol colon) h) q.0, ap (λ es. plain ∷ es) q.1)) (traces_type all around at' limit' rest reach b end' n' p'))
      (λ no'. traced_end all (MaybeTypes around) Any Free Free None start at limit tokens b end (λ other k. (without_type, refl)) (λ other k. tt))

  -- the value of a local
  traces_valued : (around : Nesting) (make : ExprTree → LocalTree) (Q : Language LocalTree)
      → ((equals : Token) (mid : List Token) (value : ExprTree) (rest : List Token) → Is "=" equals → IsExpr mid value rest → Q (equals ∷ mid) (make value) (plain ∷ whole_entries around value) rest)
      → Traces all Q Fine Kept Free (valued_in around make)
  traces_valued around make Q f at limit tokens start b end n p =
      traced_token all Q Fine Kept Free Free (is_sign "=") plain (λ equals reach place. try_as make (expr_in false around reach place)) refl (λ t one other h k. tt) start at limit tokens b end n p
      (λ equals h at' limit' rest reach b end' n' p'.
      traced_as all make (Wholes around) (After equals plain Q) Fine Kept Free reach at' limit' rest b (expr_in false around reach (At at' limit' rest))
      (λ mid value es rest q. subst (λ es. Q (equals ∷ mid) (make value) (plain ∷ es) rest) (sym q.1) (f equals mid value rest (is_sign-true "=" (symbol equals) h) q.0)) (traces_value around at' limit' rest reach b end' n' p'))
      (let s = expr_scratch around in
      record { tokens = mark "=" ∷ s.tokens; tree = make s.tree; entries = plain ∷ s.entries; whole = λ rest h. f (mark "=") (number ∷ rest) s.tree rest refl (s.whole rest h).0; before = λ rest h. tt })
      (λ rest h. tt)

  -- locals whose type need not be written
  traces_inferred : (around : Nesting) (binding : Binding) (word : Token) → Is (binding_text binding) word → Traces all (After word plain (Locals around)) Fine Kept Free (inferred_in around binding word)
  traces_inferred around binding word w at limit tokens start b end n p =
      let s = expr_scratch around in
      traced_token all (After word plain (Locals around)) Fine Kept Free Free names plain
      (λ name reach place. try_then (λ type. valued_in around (tree.Inferred binding word name type)) (maybe_type_in around reach place)) refl (λ t one other h k. tt) start at limit tokens b end n p
      (λ name h at' limit' rest reach b end' n' p'.
      let Q = After name plain (After word plain (Locals around)) in
      let named = names-true (symbol name) h in
      let joined : (type : Option TypeTree) (equals : Token) (mid : List Token) (value : ExprTree) (rest : List Token) → Is "=" equals → IsExpr mid value rest
      → Suffix (MaybeTypes around) type Q (equals ∷ mid) (tree.Inferred binding word name type value) (plain ∷ whole_entries around value) rest =
      λ type equals mid value rest e v tokens front q. (of_binding {binding = binding} w named q.0 e v, ap (λ front. plain ∷ plain ∷ (front ++ plain ∷ whole_entries around value)) q.1) in
      traced_then all (MaybeTypes around) Q Fine Any Free Kept Free (λ type. valued_in around (tree.Inferred binding word name type)) reach at' limit' rest b (maybe_type_in around reach (At at' limit' rest)) n' p'
      (λ type.
      record {
        tokens = mark "=" ∷ s.tokens;
        tree = tree.Inferred binding word name type s.tree;
        entries = plain ∷ s.entries;
        whole = λ rest h. joined type (mark "=") (number ∷ rest) s.tree rest refl (s.whole rest h).0;
        before = λ rest h. tt;
      })
      (λ type. traces_valued around (tree.Inferred binding word name type) (Suffix (MaybeTypes around) type Q) (joined type))
      (traces_maybe_type around at' limit' rest reach b end' n' p'))
      (record {
        tokens = some_name ∷ mark "=" ∷ s.tokens;
        tree = tree.Inferred binding word some_name None s.tree;
        entries = plain ∷ plain ∷ s.entries;
        whole = λ rest h. (of_binding {binding = binding} w refl without_type refl (s.whole rest h).0, refl);
        before = λ rest h. tt;
      })
      (λ rest h. tt)

  -- the reader of locals
  pub traces_local : (around : Nesting) → Traces all (Locals around) Fine Kept Free (local_in around)
  traces_local around at limit tokens start b end n p =
      let Q = Locals around in
      let typed = typed_in around None in
      let by_const = choice (is_sign "const") plain (λ word. typed_in around (Some word)) typed in
      let by_var = choice (is_sign "var") plain (inferred_in around Var) by_const in
      traced_choice all Q Fine Kept Free Free (is_sign "let") plain (inferred_in around Let) by_var refl (λ t one other h k. tt) start at limit tokens b end n p
      (λ word h. traces_inferred around Let word (is_sign-true "let" (symbol word) h))
      (λ no'.
      traced_choice all Q Fine Kept Free Free (is_sign "var") plain (inferred_in around Var) by_const refl (λ t one other h k. tt) start at limit tokens b end n p
      (λ word h. traces_inferred around Var word (is_sign-true "var" (symbol word) h))
      (λ no'.
      traced_choice all Q Fine Kept Free Free (is_sign "const") plain (λ word. typed_in around (Some word)) typed refl (λ t one other h k. tt) start at limit tokens b end n p
      (λ word h. traces_typed around (Some word) (After word plain Q) (λ tokens mid type ds es rest t d is. (of_const (is_sign-true "const" (symbol word) h) t d, ap (λ es. plain ∷ es) is)))
      (λ no'. traces_typed around None Q (λ tokens mid type ds es rest t d is. (of_type t d, is)) at limit tokens start b end n p)))
