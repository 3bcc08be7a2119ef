-- The readers of forms: what they read, and where the ways that they note come from.
use Rattle.std.proofs.Common.{◌≡◌, inl, inr, ⊎_elim, ℕ, zero, suc, Bool, true, false, List, [], ◌∷◌, ◌++◌, length, refl, sym, subst, codes, append_assoc}
use Rattle.std.specs.Prelude.{Option}
use Rattle.std.proofs.lemmas.Bool.{false≢true}
use Rattle.def_token.specs.Lexical.{Token}
use Rattle.def_tree.specs.Limits.{Nesting, Entry, plain, type_entries, whole_entries, stmts_entries}
use Rattle.def_tree.specs.Statements.{no_stmts}
use Rattle.def_tree.specs.StmtTree.{NoStmts}
use Rattle.def_tree.specs.Symbol.{Symbol, Sign, symbol, is_sign}
use Rattle.def_tree.specs.Types.{ended, of_word}
use Rattle.def_tree.specs.TypeTree.{Int, Word}
use Rattle.law_tree.proofs.Symbols.{is_sign-true}
use Rattle.def_reading.specs.Cursor.{Told, At, FarthestFailure}
use Rattle.def_reading.specs.StmtReading.{stmts_in, stmt_in}
use Rattle.def_reading.specs.Try.{Try, Reads, Stops, Reader, try_then, try_as, choice, listed, expr_in, type_in}
use Rattle.def_reading.specs.TypeReading.{Ended}
use Rattle.law_stmts.proofs.ExprTraced.{traces_expr}
use Rattle.law_stmts.proofs.ExprTraces.{Wholes}
use Rattle.law_stmts.proofs.LocalTraced.{mark, expr_scratch}
use Rattle.law_machine.proofs.MachineGood.{Placed}
use Rattle.law_exprs.proofs.Quiet.{Kept, Fine, fine, kept_quiet, NoElse, Both}
use Rattle.law_stmts.proofs.StmtTraced.{Blocks, traces_stmt, traces_stmts}
use Rattle.law_exprs.proofs.TryComes.{Noted}
use Rattle.law_exprs.proofs.TryTraces.{Language, Class, Change, Any, Free, Scratch, Suffix, After, Origin, Traced, Traces, traced_then, traced_as, traced_for, traced_choice, traced_refused, traced_end, traced_head}
use Rattle.law_exprs.proofs.TypeTraced.{Types, traces_type}
use Rattle.def_decl_reading.specs.Form.{Front, is_front, Form, Made, Never, Branch, Then, As, Listed, Many, Until, AType, AnExpr, Stmts, begins, with_first, many_in, unless_by, until_in, reads}
use Rattle.law_decls.proofs.FormFirst.{front_token, token_fits, with_front, in_first_front, in_with_front, some_tree, range_of, range, type_symbols, type_in_range, Predicts}
use Rattle.law_decls.proofs.FormFronts.{front_not_end}
use Rattle.law_decls.proofs.FormRead.{front_fits as passes_fits}
use Rattle.law_decls.proofs.Gives.{is_made, is_part, is_yes, is_no, is_then, is_as, ListedBy, is_last, is_more, ManyBy, is_none, is_one, UntilBy, is_end, is_on, Gives}
use Rattle.law_decls.proofs.Range.{Range, Among, In, with_symbol, joined, within, avoids, passes, in_within, in_passes, in_avoids, in_with, in_first, in_left, in_right}

-- other tokens that begin so
abbrev pub Into : Range → Change
Into range old new = In range new

-- tokens that begin with a semicolon are fine behind an expression
semicolon_fine : (rest : List Token) → begins (is_sign ";") rest ≡ true → Fine rest
semicolon_fine [] h = absurd (false≢true h)
semicolon_fine (t ∷ ts) h = let is = is_sign-true ";" (symbol t) h in fine t ts (rw is refl) (rw is refl)

-- names before a semicolon take no type arguments
semicolon_kept : (old new : List Token) → begins (is_sign ";") new ≡ true → Kept old new
semicolon_kept old [] h = absurd (false≢true h)
semicolon_kept old (t ∷ ts) h = let is = is_sign-true ";" (symbol t) h in kept_quiet old t ts (rw is refl)

-- tokens from nothing that are a form
pub scratch : {A : Type 0} (form : Form A) (behind : Range) → Predicts false behind form → Scratch (Gives form) (In behind) (In (range behind form))
scratch (Made made) behind v = record { tokens = []; tree = made; entries = []; whole = λ rest h. is_made; before = λ rest h. h }
scratch Never behind v = absurd (false≢true v)
scratch (Branch front entry yes' no') behind v =
    let t = front_token front in
    let s = scratch (yes' t) behind (v.0 t) in
    record {
      tokens = t ∷ s.tokens;
      tree = s.tree;
      entries = entry ∷ s.entries;
      whole = λ rest h. is_yes (token_fits front) (s.whole rest h);
      before = λ rest h. in_first_front front (range behind no') t (s.tokens ++ rest) (token_fits front);
    }
scratch (Then form next) behind v =
    let mid = range_of (λ a. range behind (next a)) (some_tree form) in
    let s = scratch form mid v.0 in
    let u = scratch (next s.tree) behind (v.1 s.tree) in
    let b : (rest : List Token) → In behind rest → In mid (u.tokens ++ rest) = λ rest h. in_within (range behind (next s.tree)) mid (u.tokens ++ rest) (v.2 s.tree) (u.before rest h) in
    record {
      tokens = s.tokens ++ u.tokens;
      tree = u.tree;
      entries = s.entries ++ u.entries;
      whole = λ rest h.
          subst (λ ts. Gives (Then form next) ts u.tree (s.entries ++ u.entries) rest) (sym (append_assoc s.tokens u.tokens rest)) (is_then (s.whole (u.tokens ++ rest) (b rest h)) (u.whole rest h));
      before = λ rest h. subst (In (range mid form)) (sym (append_assoc s.tokens u.tokens rest)) (s.before (u.tokens ++ rest) (b rest h));
    }
scratch (As make form) behind v =
    let s = scratch form behind v in
    record { tokens = s.tokens; tree = make s.tree; entries = s.entries; whole = λ rest h. is_as (s.whole rest h); before = s.before }
scratch (Listed form) behind v =
    let s = scratch form (with_symbol (Sign (codes ",")) behind) v.1 in
    record {
      tokens = s.tokens;
      tree = s.tree ∷ [];
      entries = s.entries ++ [];
      whole = λ rest h. is_last (s.whole rest (in_with (Sign (codes ",")) behind rest h));
      before = λ rest h. s.before rest (in_with (Sign (codes ",")) behind rest h);
    }
scratch (Many front entry form) behind v =
    record { tokens = []; tree = []; entries = []; whole = λ rest h. is_none (in_avoids (is_front front) behind rest v.0 h); before = λ rest h. in_with_front front behind rest h }
scratch (Until test form) behind v =
    record { tokens = []; tree = []; entries = []; whole = λ rest h. is_end (in_passes test behind rest v.0 h); before = λ rest h. in_right (range (Among []) form) behind rest h }
scratch (AType around) behind v =
    let t = mark "int" in
    record { tokens = t ∷ []; tree = Word Int t []; entries = type_entries around.types (Word Int t []); whole = λ rest h. is_part (of_word {word = Int} refl ended); before = λ rest h. refl }
scratch (AnExpr around) behind v =
    let s = expr_scratch around in
    record {
      tokens = s.tokens;
      tree = s.tree;
      entries = whole_entries around s.tree;
      whole = λ rest h. is_part (s.whole rest (semicolon_fine rest (in_passes (is_sign ";") behind rest v h))).0;
      before = λ rest h. tt;
    }
scratch (Stmts around) behind v =
    record { tokens = mark "}" ∷ []; tree = NoStmts; entries = stmts_entries around NoStmts; whole = λ rest h. is_part (no_stmts refl); before = λ rest h. tt }

-- the same, whatever it begins with
abbrev anyhow : {A : Type 0} {P : Language A} {Ends Before : Class} → Scratch P Ends Before → Scratch P Ends Any
anyhow s = record { tokens = s.tokens; tree = s.tree; entries = s.entries; whole = s.whole; before = λ rest h. tt }

module _ (all : List Token) where
  -- the same of a language that holds of tokens that begin so
  module _ {A : Type 0} (P Q : Language A) (Ends : Class) (F G G' : Change) (embed : (old new : List Token) (a : A) (es : List Entry) (rest : List Token) → G old new → P new a es rest → Q new a es rest)
      (like : (old new : List Token) → G old new → G' old new) where
    origin_into : {start reach : Option FarthestFailure} {at : ℕ} {limit : Option Told} {tokens : List Token} {b : FarthestFailure} → Origin all P Ends G start at limit tokens b reach → Origin all Q Ends G' start at limit tokens b reach
    origin_into {tokens = tokens} o is =
        ⊎_elim (λ h. inl h)
        (λ c. inr (record {
          front = c.front;
          tail = c.tail;
          are = c.are;
          here = c.here;
          more = c.more;
          tree = c.tree;
          entries = c.entries;
          whole = λ rest h. embed tokens (c.front ++ (c.more ++ rest)) c.tree c.entries rest (c.alike rest h) (c.whole rest h);
          room = c.room;
          spot = c.spot;
          alike = λ rest h. like tokens (c.front ++ (c.more ++ rest)) (c.alike rest h);
          stands = c.stands;
        })) (o is)

    traced_into : (start : Option FarthestFailure) (at : ℕ) (limit : Option Told) (tokens : List Token) (b : FarthestFailure) (look : Try A) → Traced all P Ends F G start at limit tokens b look → Traced all Q Ends F G' start at limit tokens b look
    traced_into start at limit tokens b (Reads a (At at' limit' rest) reach) (g, o) = (
      record {
        entries = g.entries;
        piece = g.piece;
        are = g.are;
        stable = λ other h. embed tokens (g.piece ++ other) a g.entries other (g.alike other h) (g.stable other h);
        count = g.count;
        passes = g.passes;
        end = g.end;
        alike = λ other h. like tokens (g.piece ++ other) (g.alike other h);
      },
      origin_into o,
    )
    traced_into start at limit tokens b (Stops reach) o = origin_into o

    traces_into : (reader : Reader A) → Traces all P Ends F G reader → Traces all Q Ends F G' reader
    traces_into reader t at limit tokens start b end n p = traced_into start at limit tokens b (reader start (At at limit tokens)) (t at limit tokens start b end n p)

  -- a form, and one behind it
  then_traced : {A B : Type 0} (form : Form A) (next : A → Form B) (behind mid : Range) → Traces all (Gives form) (In mid) (Into mid) (Into (range mid form)) (reads form) → ((a : A) → Scratch (Gives (next a)) (In behind) (In mid))
      → ((a : A) → Traces all (Suffix (Gives form) a (Gives (Then form next))) (In behind) (Into behind) (Into mid) (reads (next a)))
      → Traces all (Gives (Then form next)) (In behind) (Into behind) (Into (range mid form)) (reads (Then form next))
  then_traced form next behind mid t s k at limit tokens start b end n p =
      traced_then all (Gives form) (Gives (Then form next)) (In behind) (In mid) (Into mid) (Into behind) (Into (range mid form)) (λ a. reads (next a)) start at limit tokens b (reads form start (At at limit tokens)) n p
      (λ a. let u = s a in record { tokens = u.tokens; tree = u.tree; entries = u.entries; whole = λ rest h ts front g. is_then g (u.whole rest h); before = u.before })
      k (t at limit tokens start b end n p)

  -- forms with a comma between them
  module _ {A : Type 0} (form : Form A) (behind : Range) (t : Traces all (Gives form) (In (with_symbol (Sign (codes ",")) behind)) (Into (with_symbol (Sign (codes ",")) behind)) (Into (range (with_symbol (Sign (codes ",")) behind) form)) (reads form))
      (s : Scratch (ListedBy (Gives form)) (In behind) (In (range (with_symbol (Sign (codes ",")) behind) form))) where
    abbrev inner : Range
    inner = with_symbol (Sign (codes ",")) behind

    listed_traced : (turns : ℕ) → Traces all (ListedBy (Gives form)) (In behind) (Into behind) (Into (range inner form)) (listed with_first [] (reads form) turns)
    listed_traced zero at limit tokens start b end n p = traced_refused all (ListedBy (Gives form)) (In behind) (Into behind) (Into (range inner form)) start at limit tokens b p (anyhow s) s.before
    listed_traced (suc turns) at limit tokens start b end n p =
        let Q = ListedBy (Gives form) in
        let more : A → Reader (List A) = λ a reach place. try_as (with_first a) (listed with_first [] (reads form) turns reach place) in
        traced_then all (Gives form) Q (In behind) (In inner) (Into inner) (Into behind) (Into (range inner form)) (λ a. choice (is_sign ",") plain (λ comma. more a) (λ reach place. Reads (a ∷ []) place reach)) start at limit tokens b
        (reads form start (At at limit tokens)) n p
        (λ a. record { tokens = []; tree = a ∷ []; entries = []; whole = λ rest h ts front g. is_last g; before = λ rest h. in_with (Sign (codes ",")) behind rest h })
        (λ a at' limit' mid reach b end' n' p'.
        traced_choice all (Suffix (Gives form) a Q) (In behind) (Into behind) Free (Into inner) (is_sign ",") plain (λ comma. more a) (λ reach place. Reads (a ∷ []) place reach) refl
        (λ comma one other is k. in_first (Sign (codes ",")) behind comma other (is_sign-true "," (symbol comma) is)) reach at' limit' mid b end' n' p'
        (λ comma is at'' limit'' rest reach b end'' n'' p''.
        traced_as all (with_first a) Q (After comma plain (Suffix (Gives form) a Q)) (In behind) (Into behind) Free reach at'' limit'' rest b (listed with_first [] (reads form) turns reach (At at'' limit'' rest))
        (λ ts others es rest l before front g. is_more g (is_sign-true "," (symbol comma) is) l)
        (traced_for all Q (In behind) (In behind) (Into behind) (Into behind) (Into (range inner form)) Free (λ rest h. h) (λ rest other h. h) reach at'' limit'' rest b (listed with_first [] (reads form) turns reach (At at'' limit'' rest)) (λ other h. tt)
        (listed_traced turns at'' limit'' rest reach b end'' n'' p'')))
        (λ none. traced_end all (Suffix (Gives form) a Q) (In behind) (Into behind) (Into inner) (a ∷ []) reach at' limit' mid b end' (λ other h ts front g. is_last g) (λ other h. in_with (Sign (codes ",")) behind other h)))
        (t at limit tokens start b end n p)

  -- forms that each begin with a token of one kind
  module _ {A : Type 0} (front : Front) (entry : Entry) (form : Token → Form A) (behind : Range) (apart : avoids (is_front front) behind ≡ true)
      (t : (token : Token) → Traces all (Gives (form token)) (In (with_front front behind)) (Into (with_front front behind)) Free (reads (form token))) where
    abbrev inside : Range
    inside = with_front front behind

    abbrev Each : Language (List A)
    Each = ManyBy front entry (λ token. Gives (form token))

    abbrev turning : ℕ → Reader (List A)
    turning = many_in (is_front front) entry (λ token. reads (form token))

    abbrev more_turns : ℕ → A → Reader (List A)
    more_turns turns first reach place = try_as (with_first first) (turning turns reach place)

    many_traced : (turns : ℕ) → Traces all Each (In behind) (Into behind) (Into inside) (turning turns)
    many_traced zero at limit tokens start b end n p =
        traced_refused all Each (In behind) (Into behind) (Into inside) start at limit tokens b p
        (record { tokens = []; tree = []; entries = []; whole = λ rest h. is_none (in_avoids (is_front front) behind rest apart h); before = λ rest h. tt }) (λ rest h. in_with_front front behind rest h)
    many_traced (suc turns) at limit tokens start b end n p =
        traced_choice all Each (In behind) (Into behind) Free (Into inside) (is_front front) entry (λ token reach place. try_then (more_turns turns) (reads (form token) reach place)) (λ reach place. Reads [] place reach) (front_not_end front)
        (λ token one other is k. in_first_front front behind token other (passes_fits front token is)) start at limit tokens b end n p
        (λ token is at' limit' mid reach b end' n' p'.
        traced_then all (Gives (form token)) (After token entry Each) (In behind) (In inside) (Into inside) (Into behind) Free (more_turns turns) reach at' limit' mid b (reads (form token) reach (At at' limit' mid)) n' p'
        (λ a.
        record {
          tokens = [];
          tree = a ∷ [];
          entries = [];
          whole = λ rest h ts front' g. is_one (passes_fits front token is) g (is_none (in_avoids (is_front front) behind rest apart h));
          before = λ rest h. in_with_front front behind rest h;
        })
        (λ a at'' limit'' rest reach b end'' n'' p''.
        traced_as all (with_first a) Each (Suffix (Gives (form token)) a (After token entry Each)) (In behind) (Into behind) (Into inside) reach at'' limit'' rest b (turning turns reach (At at'' limit'' rest))
        (λ ts others es rest m before front' g. is_one (passes_fits front token is) g m) (many_traced turns at'' limit'' rest reach b end'' n'' p''))
        (t token at' limit' mid reach b end' n' p'))
        (λ none. traced_end all Each (In behind) (Into behind) (Into inside) [] start at limit tokens b end (λ other h. is_none (in_avoids (is_front front) behind other apart h)) (λ other h. in_with_front front behind other h))

  -- forms up to a token that passes a test
  module _ {A : Type 0} (test : Symbol → Bool) (form : Form A) (behind : Range) (last : passes test behind ≡ true) (apart : avoids test (range (Among []) form) ≡ true)
      (first : within (range (joined (range (Among []) form) behind) form) (range (Among []) form) ≡ true)
      (t : Traces all (λ new a es rest. In (range (Among []) form) new × Gives form new a es rest) (In (joined (range (Among []) form) behind)) (Into (joined (range (Among []) form) behind)) (Into (range (Among []) form)) (reads form)) where
    abbrev heads : Range
    heads = range (Among []) form

    abbrev Headed : Language A
    Headed new a es rest = In heads new × Gives form new a es rest

    abbrev Forms : Language (List A)
    Forms = UntilBy test (Gives form)

    abbrev going : ℕ → Reader (List A)
    going = until_in test (reads form)

    abbrev more_forms : ℕ → A → Reader (List A)
    more_forms turns first reach place = try_as (with_first first) (going turns reach place)

    unless_traced : (nothing : Bool) (turns : ℕ) (at : ℕ) (limit : Option Told) (tokens : List Token) (start : Option FarthestFailure) (b : FarthestFailure) → Ended tokens → Noted at limit → Placed all at limit tokens
        → Traces all Forms (In behind) (Into behind) (Into (joined heads behind)) (going turns)
        → Traced all Forms (In behind) (Into behind) (Into (joined heads behind)) start at limit tokens b (unless_by nothing (λ reach place. try_then (more_forms turns) (reads form reach place)) start (At at limit tokens))
    unless_traced true turns at limit tokens start b end n p more =
        traced_end all Forms (In behind) (Into behind) (Into (joined heads behind)) [] start at limit tokens b end (λ other h. is_end (in_passes test behind other last h)) (λ other h. in_right heads behind other h)
    unless_traced false turns at limit tokens start b end n p more =
        traced_then all Headed Forms (In behind) (In (joined heads behind)) (Into (joined heads behind)) (Into behind) (Into (joined heads behind)) (more_forms turns) start at limit tokens b (reads form start (At at limit tokens)) n p
        (λ a.
        record {
          tokens = [];
          tree = a ∷ [];
          entries = [];
          whole = λ rest h ts front g. is_on (in_avoids test heads ts apart g.0) g.1 (is_end (in_passes test behind rest last h));
          before = λ rest h. in_right heads behind rest h;
        })
        (λ a at' limit' mid reach b end' n' p'.
        traced_as all (with_first a) Forms (Suffix Headed a Forms) (In behind) (Into behind) (Into (joined heads behind)) reach at' limit' mid b (going turns reach (At at' limit' mid))
        (λ ts others es rest u before front g. is_on (in_avoids test heads before apart g.0) g.1 u) (more at' limit' mid reach b end' n' p'))
        (traced_for all Headed (In (joined heads behind)) (In (joined heads behind)) (Into (joined heads behind)) (Into (joined heads behind)) (Into heads) (Into (joined heads behind)) (λ rest h. h) (λ rest other h. h) start at limit tokens b
        (reads form start (At at limit tokens)) (λ other h. in_left heads behind other h) (t at limit tokens start b end n p))

    until_traced : (turns : ℕ) → Traces all Forms (In behind) (Into behind) (Into (joined heads behind)) (going turns)
    until_traced zero at limit tokens start b end n p =
        traced_refused all Forms (In behind) (Into behind) (Into (joined heads behind)) start at limit tokens b p
        (record { tokens = []; tree = []; entries = []; whole = λ rest h. is_end (in_passes test behind rest last h); before = λ rest h. tt }) (λ rest h. in_right heads behind rest h)
    until_traced (suc turns) at limit tokens start b end n p = unless_traced (begins test tokens) turns at limit tokens start b end n p (until_traced turns)

  -- types
  types_traced : (around : Nesting) (behind : Range) → Traces all (Types around.types) (In behind) (Into behind) (Into (Among type_symbols)) (type_in around)
  types_traced around behind at limit tokens start b end n p =
      let look = type_in around start (At at limit tokens) in
      traced_for all (Types around.types) Any (In behind) Free (Into behind) (Into (Among type_symbols)) (Into (Among type_symbols)) (λ rest h. tt) (λ rest other h. tt) start at limit tokens b look (λ other h. h)
      (traced_head all (Types around.types) Any Free Free (Into (Among type_symbols)) (λ old new type es rest q. type_in_range q.0) start at limit tokens b look (traces_type all around at limit tokens start b end n p))

  -- expressions before a semicolon
  values_traced : (around : Nesting) (behind : Range) → passes (is_sign ";") behind ≡ true → Traces all (Wholes around) (In behind) (Into behind) Free (expr_in false around)
  values_traced around behind v at limit tokens start b end n p =
      traced_for all (Wholes around) Fine (In behind) Kept (Into behind) Both Free (λ rest h. semicolon_fine rest (in_passes (is_sign ";") behind rest v h)) (λ rest other h. semicolon_kept rest other (in_passes (is_sign ";") behind other v h))
      start at limit tokens b (expr_in false around start (At at limit tokens)) (λ other h. tt) (traces_expr all around at limit tokens start b end n p)

  -- statements up to a closing brace
  blocks_traced : (around : Nesting) (behind : Range) → Traces all (Blocks around) (In behind) (Into behind) Free (reads (Stmts around))
  blocks_traced around behind at limit tokens start b end n p =
      let turns = suc (length tokens) in
      let look = stmts_in (stmt_in turns around) turns start (At at limit tokens) in
      traced_for all (Blocks around) Any (In behind) Free (Into behind) NoElse Free (λ rest h. tt) (λ rest other h. tt) start at limit tokens b look (λ other h. tt)
      (traces_stmts all around (stmt_in turns around) (traces_stmt all turns around) turns at limit tokens start b end n p)

  -- The reader of a form, where the form is part of a choice: other tokens that the choice gives go on where nothing else
  -- does.
  pub traced_in : {A : Type 0} (form : Form A) (behind : Range) (other : Bool) → Predicts other behind form → (Q : Language A) (G : Change)
      → ((new : List Token) (a : A) (es : List Entry) (rest : List Token) → In (range behind form) new → Gives form new a es rest → Q new a es rest)
      → ((old new : List Token) → In (range behind form) new → G old new)
      → (s : Scratch Q (In behind) Any) → ((old rest : List Token) → In behind rest → G old (s.tokens ++ rest)) → Traces all Q (In behind) (Into behind) G (reads form)
  traced_in (Made made) behind other v Q G embed like s missed =
      λ at limit tokens start b end n p.
      traced_end all Q (In behind) (Into behind) G made start at limit tokens b end (λ other h. embed other made [] other h is_made) (λ other h. like tokens other h)
  traced_in Never behind other v Q G embed like s missed = λ at limit tokens start b end n p. traced_refused all Q (In behind) (Into behind) G start at limit tokens b p s (missed tokens)
  traced_in (Branch front entry yes' no') behind other v Q G embed like s missed =
      let first : (t : Token) (ts : List Token) → is_front front (symbol t) ≡ true → In (with_front front (range behind no')) (t ∷ ts) =
      λ t ts is. in_first_front front (range behind no') t ts (passes_fits front t is) in
      λ at limit tokens start b end n p.
      traced_choice all Q (In behind) (Into behind) Free G (is_front front) entry (λ token. reads (yes' token)) (reads no') (front_not_end front) (λ t one other is k. like (t ∷ one) (t ∷ other) (first t other is)) start at limit tokens b end n p
      (λ t is.
      let u = scratch (yes' t) behind (v.0 t) in
      traced_in (yes' t) behind false (v.0 t) (After t entry Q) Free (λ new a es rest k g. embed (t ∷ new) a (entry ∷ es) rest (first t new is) (is_yes (passes_fits front t is) g)) (λ old new k. tt)
      (record {
        tokens = u.tokens;
        tree = u.tree;
        entries = u.entries;
        whole = λ rest h. embed (t ∷ (u.tokens ++ rest)) u.tree (entry ∷ u.entries) rest (first t (u.tokens ++ rest) is) (is_yes (passes_fits front t is) (u.whole rest h));
        before = λ rest h. tt;
      })
      (λ old rest h. tt))
      (λ none.
      traced_in no' behind true v.2 Q G
      (λ new a es rest k g. embed new a es rest (in_with_front front (range behind no') new k) (is_no (in_avoids (is_front front) (range behind no') new v.1 k) g))
      (λ old new k. like old new (in_with_front front (range behind no') new k)) s missed at limit tokens start b end n p)
  traced_in (Then form next) behind other v Q G embed like s missed =
      let mid = range_of (λ a. range behind (next a)) (some_tree form) in
      let u = scratch form mid v.0 in
      traces_into (Gives (Then form next)) Q (In behind) (Into behind) (Into (range mid form)) G (λ old new a es rest k g. embed new a es rest k g) like (reads (Then form next))
      (then_traced form next behind mid (traced_in form mid false v.0 (Gives form) (Into (range mid form)) (λ new a es rest k g. g) (λ old new k. k) (anyhow u) (λ old rest h. u.before rest h))
      (λ a.
      let w = scratch (next a) behind (v.1 a) in
      record { tokens = w.tokens; tree = w.tree; entries = w.entries; whole = w.whole; before = λ rest h. in_within (range behind (next a)) mid (w.tokens ++ rest) (v.2 a) (w.before rest h) })
      (λ a.
      let w = scratch (next a) behind (v.1 a) in
      traced_in (next a) behind false (v.1 a) (Suffix (Gives form) a (Gives (Then form next))) (Into mid) (λ new c es rest k g ts front h. is_then h g) (λ old new k. in_within (range behind (next a)) mid new (v.2 a) k)
      (record { tokens = w.tokens; tree = w.tree; entries = w.entries; whole = λ rest h ts front g. is_then g (w.whole rest h); before = λ rest h. tt })
      (λ old rest h. in_within (range behind (next a)) mid (w.tokens ++ rest) (v.2 a) (w.before rest h))))
  traced_in (As make form) behind other v Q G embed like s missed =
      let u = scratch form behind v in
      let t = traced_in form behind false v (Gives form) (Into (range behind form)) (λ new a es rest k g. g) (λ old new k. k) (anyhow u) (λ old rest h. u.before rest h) in
      traces_into (Gives (As make form)) Q (In behind) (Into behind) (Into (range behind form)) G (λ old new a es rest k g. embed new a es rest k g) like (reads (As make form))
      (λ at limit tokens start b end n p.
      traced_as all make (Gives form) (Gives (As make form)) (In behind) (Into behind) (Into (range behind form)) start at limit tokens b (reads form start (At at limit tokens)) (λ ts a es rest g. is_as g) (t at limit tokens start b end n p))
  traced_in (Listed form) behind other v Q G embed like s missed =
      let inside = with_symbol (Sign (codes ",")) behind in
      let u = scratch form inside v.1 in
      let t = traced_in form inside false v.1 (Gives form) (Into (range inside form)) (λ new a es rest k g. g) (λ old new k. k) (anyhow u) (λ old rest h. u.before rest h) in
      traces_into (Gives (Listed form)) Q (In behind) (Into behind) (Into (range inside form)) G (λ old new a es rest k g. embed new a es rest k g) like (reads (Listed form))
      (λ at limit tokens start b end n p. listed_traced form behind t (scratch (Listed form) behind v) (suc (length tokens)) at limit tokens start b end n p)
  traced_in (Many front entry form) behind other v Q G embed like s missed =
      let inside = with_front front behind in
      let t : (token : Token) → Traces all (Gives (form token)) (In inside) (Into inside) Free (reads (form token)) =
      λ token. traced_in (form token) inside false (v.1 token) (Gives (form token)) Free (λ new a es rest k g. g) (λ old new k. tt) (anyhow (scratch (form token) inside (v.1 token))) (λ old rest h. tt) in
      traces_into (Gives (Many front entry form)) Q (In behind) (Into behind) (Into inside) G (λ old new a es rest k g. embed new a es rest k g) like (reads (Many front entry form))
      (λ at limit tokens start b end n p. many_traced front entry form behind v.0 t (suc (length tokens)) at limit tokens start b end n p)
  traced_in (Until test form) behind other v Q G embed like s missed =
      let heads = range (Among []) form in
      let inside = joined heads behind in
      let u = scratch form inside v.4 in
      let t = traced_in form inside false v.4 (λ new a es rest. In heads new × Gives form new a es rest) (Into heads) (λ new a es rest k g. (in_within (range inside form) heads new v.2 k, g)) (λ old new k. in_within (range inside form) heads new v.2 k)
      (record {
        tokens = u.tokens;
        tree = u.tree;
        entries = u.entries;
        whole = λ rest h. (in_within (range inside form) heads (u.tokens ++ rest) v.2 (u.before rest h), u.whole rest h);
        before = λ rest h. tt;
      })
      (λ old rest h. in_within (range inside form) heads (u.tokens ++ rest) v.2 (u.before rest h)) in
      traces_into (Gives (Until test form)) Q (In behind) (Into behind) (Into inside) G (λ old new a es rest k g. embed new a es rest k g) like (reads (Until test form))
      (λ at limit tokens start b end n p. until_traced test form behind v.0 v.1 v.2 t (suc (length tokens)) at limit tokens start b end n p)
  traced_in (AType around) behind other v Q G embed like s missed =
      traces_into (Types around.types) Q (In behind) (Into behind) (Into (Among type_symbols)) G
      (λ old new type es rest k q. subst (λ es. Q new type es rest) (sym q.1) (embed new type (type_entries around.types type) rest k (is_part q.0))) like (type_in around) (types_traced around behind)
  traced_in (AnExpr around) behind other v Q G embed like s missed =
      traces_into (Wholes around) Q (In behind) (Into behind) Free G (λ old new e es rest k q. subst (λ es. Q new e es rest) (sym q.1) (embed new e (whole_entries around e) rest tt (is_part q.0)))
      (λ old new k. like old new tt) (expr_in false around) (values_traced around behind v)
  traced_in (Stmts around) behind other v Q G embed like s missed =
      traces_into (Blocks around) Q (In behind) (Into behind) Free G (λ old new stmts es rest k q. subst (λ es. Q new stmts es rest) (sym q.1) (embed new stmts (stmts_entries around stmts) rest tt (is_part q.0)))
      (λ old new k. like old new tt) (reads (Stmts around)) (blocks_traced around behind)

  -- the reader of a form, before what begins so
  pub traces_form : {A : Type 0} (form : Form A) (behind : Range) → Predicts false behind form → Traces all (Gives form) (In behind) (Into behind) (Into (range behind form)) (reads form)
  traces_form form behind v =
      let u = scratch form behind v in
      traced_in form behind false v (Gives form) (Into (range behind form)) (λ new a es rest k g. g) (λ old new k. k) (anyhow u) (λ old rest h. u.before rest h)
