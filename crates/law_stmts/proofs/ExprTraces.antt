-- The ways that the reader of expressions notes have trees that go as far.
use Rattle.std.proofs.Common.{◌≡◌, ⊎_elim, ℕ, ◌+◌, ◌<◌, ◌≤◌, Bool, true, false, List, [], ◌∷◌, ◌++◌, length, drop, refl, sym, ap, subst, ◌∙◌, arith, append_assoc, length-append}
use Rattle.std.specs.Prelude.{Option, Some, None, nat_lt}
use Prim.Native.String.{String}
use Rattle.std.proofs.lemmas.Bool.Decides.{nat_tests}
use Rattle.def_token.specs.Lexical.{Token}
use Rattle.def_tree.specs.ExprTree.{ExprTree}
use Rattle.def_tree.specs.Expressions.{IsExpr, TakesNone}
use Rattle.def_tree.specs.Limits.{Nesting, expr_entries, whole_entries}
use Rattle.def_tree.specs.Operator.{joins}
use Rattle.def_tree.specs.Part.{IsExprPart}
use Rattle.def_tree.specs.Statements.{begins_with}
use Rattle.def_tree.specs.Symbol.{symbol, is_sign, Is}
use Rattle.law_tree.proofs.Covered.{expr_covered}
use Rattle.law_tree.proofs.Heads.{begins_expr, expr_head}
use Rattle.law_tree.proofs.StmtsCovered.{whole_covered}
use Rattle.law_tree.proofs.Symbols.{is_sign-true}
use Rattle.def_reading.specs.Machine.{Expected}
use Rattle.def_reading.specs.Cursor.{Told, At, told_at, passed, before, before_by, earlier, told_by, FarthestFailure}
use Rattle.def_reading.specs.TypeReading.{Ended}
use Rattle.law_types.proofs.AheadFaults.{Within, a_limit, Grows, same_limit, new_limit, Splits, longer, shorter, splits}
use Rattle.law_types.proofs.AheadKept.{ended_front}
use Rattle.law_types.proofs.AheadSound.{none_without}
use Rattle.law_exprs.proofs.ExprSpots.{finishes_sound, finishes_same, leads_finish}
use Rattle.law_exprs.proofs.ExprStands.{StandsBefore, expr_stands, no_lead}
use Rattle.law_types.proofs.LimitSpots.{spot_told, passed_at}
use Rattle.law_stmts.proofs.LocalComes.{headed_not}
use Rattle.law_machine.proofs.MachineCloses.{ending}
use Rattle.law_machine.proofs.MachineComplete.{expr_comes}
use Rattle.law_machine.proofs.MachineFollows.{Completion}
use Rattle.law_machine.proofs.MachineGood.{Stands}
use Rattle.law_machine.proofs.MachineGrows.{finishes_grows}
use Rattle.law_machine.proofs.MachineRun.{ends_step}
use Rattle.law_machine.proofs.MachineSound.{nothing}
use Rattle.law_machine.proofs.MachineWays.{LeastOf}
use Rattle.law_exprs.proofs.Quiet.{Kept, Both, Fine, kept_shift, fine_both}
use Rattle.law_exprs.proofs.SpotsFrom.{expr_spot}
use Rattle.law_exprs.proofs.TryComes.{Noted, earlier_noted, starts}
use Rattle.law_exprs.proofs.TryTraces.{spot_by, spot_within, Language, Completes}

-- what is told is one thing
some_told : (this other : Told) → Some this ≡ Some other → this ≡ other
some_told this other h = cc

-- the language of whole expressions
abbrev pub Wholes : Nesting → Language ExprTree
Wholes around tokens e es rest = IsExpr tokens e rest × (es ≡ whole_entries around e)

-- where a limit is told before the expression, nothing else is told
data GrownView (many : ℕ) (told : Told) : Option Told → Type 0 where
  is_told : GrownView many told (Some told)
  not_yet : many ≤ told.at → GrownView many told None

-- the limit on the way, where one is told before
grown_view : (many : ℕ) (told : Told) (limit lf : Option Told) → Grows many limit lf → lf ≡ Some told → GrownView many told limit
grown_view many told limit lf same_limit is = subst (GrownView many told) (sym is) is_told
grown_view many told limit (Some other) (new_limit one none h) is =
    subst (GrownView many told) (sym none) (not_yet (subst (λ (x : Told). many ≤ x.at) (some_told other told is) h))

-- a limit that is told stays so
told_last : (at : ℕ) (told : Told) (lf : Option Told) → Grows at (Some told) lf → lf ≡ Some told
told_last at told lf same_limit = refl
told_last at told (Some other) (new_limit one none h) = absurd (cc)

-- an expression is not too long where it begins
none_before : (least at : ℕ) (tokens : List Token) → least ≤ at → before least (told_at 112 (at + 1024) tokens) ≡ None
none_before least at [] h = refl
none_before least at (t ∷ tokens) h =
    let no : nat_lt (at + 1024) least ≡ false = grind (arith, nat_tests, h) in ap (λ c. before_by c (record { at = at + 1024; token = t; code = 112 })) no

-- a limit on the way stands on the way
within_at : (many : ℕ) (told : Told) → Within many (Some told) → told.at < many
within_at many told (a_limit same h) = h

-- the spot, where a limit is told before the expression
told_spot : (at many : ℕ) (start : Told) (limit : Option Told) (least : ℕ) (tokens : List Token) (t : Token) (ts : List Token) (told : Told) → start.at ≤ at → least ≤ at + many → Within (at + many) limit → GrownView (at + many) start limit
    → told_by (earlier limit (before least (told_at 112 (at + 1024) (drop 1024 tokens)))) (at + many) (t ∷ ts) ≡ Some told → spot_within (nat_lt start.at (at + many)) start (at + many) ≡ spot_told told
told_spot at many start (Some start') least tokens t ts told n low w is_told h =
    let yes' : nat_lt start.at (at + many) ≡ true = grind (arith, nat_tests, within_at (at + many) start w) in
    ap (λ c. spot_within c start (at + many)) yes'
    ∙ ap spot_told (some_told start told (ap (λ l. told_by l (at + many) (t ∷ ts)) (sym (earlier_noted start at least 1024 (drop 1024 tokens) n)) ∙ h))
told_spot at many start None least tokens t ts told n low w (not_yet k) h =
    let no : nat_lt start.at (at + many) ≡ false = grind (arith, nat_tests, k) in
    ap (λ c. spot_within c start (at + many)) no
    ∙ ap spot_told (some_told _ told (ap (λ l. told_by (earlier None l) (at + many) (t ∷ ts)) (sym (none_before least at (drop 1024 tokens) (omega (arith, low, k, n)))) ∙ h))

-- tokens begin with a sign
pub starts_is : (sign : String) (ts : List Token) → starts (is_sign sign) ts ≡ begins_with sign ts
starts_is sign [] = refl
starts_is sign (t ∷ ts) = refl

-- parts of no tokens are none
no_front : (mid front : List Token) → mid ++ front ≡ [] → front ≡ []
no_front [] front h = h
no_front (t ∷ mid) front h = absurd (cc)

-- an expression before `>>=`, of which a way has a part
pub record Shifted (all : List Token) (around : Nesting) (at : ℕ) (limit : Option Told) (tokens : List Token) (b : FarthestFailure) : Type 0 where
  pub front : List Token
  pub tail : List Token
  pub are : tokens ≡ front ++ tail
  pub here : b.many ≡ at + length front
  pub more : List Token
  pub tree : ExprTree
  pub piece : List Token
  pub p : Token
  pub q : Token
  pub r : Token
  pub greater : Is ">" p
  pub shifts : joins p ">" q ≡ true
  pub assigns : joins q "=" r ≡ true
  pub piece_is : front ++ more ≡ piece ++ p ∷ q ∷ r ∷ []
  pub whole : (ts : List Token) → IsExpr (piece ++ p ∷ q ∷ r ∷ ts) tree (p ∷ q ∷ r ∷ ts)
  pub room : length front ≤ length (whole_entries around tree) + 2
  pub spot : spot_by limit at (length front) (whole_entries around tree) ≡ spot_told b.told
  pub alike : (ts : List Token) → Both tokens (piece ++ p ∷ q ∷ r ∷ ts)
  pub stands : Stands all b.told

module _ (around : Nesting) (long : Option Told) (assigns' : Bool) (b : FarthestFailure) (at : ℕ) (limit : Option Told) (tokens : List Token) (c : Completion around long assigns' b [] Expected at limit tokens) where
  -- the tree
  part : IsExprPart (c.front ++ c.more) c.finish.e c.finish.rest
  part = finishes_sound (c.front ++ c.more) c.finish.finishes nothing

  -- the place behind it
  passes : passed (expr_entries around c.finish.e) (At at limit (c.front ++ c.more)) ≡ At c.finish.n c.finish.lf c.finish.rest
  passes =
      let m = expr_comes around long part.tree [] (λ l h value. refl) at limit in
      let same = finishes_same (leads_finish m.leads (ends_step around long m.value c.finish.e m.frames' m.at' m.limit' c.finish.rest m.wholes part.ended)) c.finish.finishes in
      m.passes ∙ ap (λ n. At n m.limit' c.finish.rest) same.0 ∙ ap (λ l. At c.finish.n l c.finish.rest) same.1

  -- its tokens
  n_is : c.finish.n ≡ at + length (expr_entries around c.finish.e)
  n_is = passed_at (expr_entries around c.finish.e) at limit (c.front ++ c.more) (omega (arith, expr_covered around part.tree)) passes

  -- the tree has at least some tokens of the way
  least_low : c.least ≤ b.many
  least_low = ⊎_elim (λ h. omega (arith, h.1)) (λ h. omega (arith, h.0, h.1)) c.least_of

  -- where the tree is refused, by what is told before it
  spot_when : (start : Option Told) → limit ≡ start → Noted at limit → long ≡ told_at 112 (at + 1024) (drop 1024 tokens) → spot_by start at (length c.front) (whole_entries around c.finish.e) ≡ spot_told b.told
  spot_when None is noted' long_is =
      expr_spot around at c.front c.more tokens c.finish.e c.finish.n c.finish.lf c.finish.rest part.tree (ap (λ l. passed (expr_entries around c.finish.e) (At at l (c.front ++ c.more))) (sym is) ∙ passes)
      (omega (arith, length-append c.front c.more)) (omega (arith, ap length c.are, length-append c.front c.tail)) c.limit' c.least c.first c.others b.told
      (ap (λ n. told_by (earlier c.limit' (before c.least (told_at 112 (at + 1024) (drop 1024 tokens)))) n (c.first ∷ c.others)) (sym c.here)
      ∙ ap (λ l. told_by (earlier c.limit' (before c.least l)) b.many (c.first ∷ c.others)) (sym long_is) ∙ c.told)
      (subst (λ n. Grows n c.limit' c.finish.lf) c.here c.grows) (subst (λ n. Within n c.limit') c.here c.within) (subst (λ n. LeastOf c.finish.n n c.least) c.here c.least_of)
  spot_when (Some start) is noted' long_is =
      let last = told_last at start c.finish.lf (subst (λ l. Grows at l c.finish.lf) is (finishes_grows c.finish.finishes).1) in
      told_spot at (length c.front) start c.limit' c.least tokens c.first c.others b.told (subst (Noted at) is noted') (omega (arith, least_low, c.here)) (subst (λ n. Within n c.limit') c.here c.within)
      (subst (λ n. GrownView n start c.limit') c.here (grown_view b.many start c.limit' c.finish.lf c.grows last))
      (ap (λ n. told_by (earlier c.limit' (before c.least (told_at 112 (at + 1024) (drop 1024 tokens)))) n (c.first ∷ c.others)) (sym c.here)
      ∙ ap (λ l. told_by (earlier c.limit' (before c.least l)) b.many (c.first ∷ c.others)) (sym long_is) ∙ c.told)

  -- where the tree is refused
  pub spot_is : Noted at limit → long ≡ told_at 112 (at + 1024) (drop 1024 tokens) → spot_by limit at (length c.front) (whole_entries around c.finish.e) ≡ spot_told b.told
  spot_is noted' long_is = spot_when limit refl noted' long_is

  -- the tokens of the tree
  stands : StandsBefore IsExpr (c.front ++ c.more) c.finish.e c.finish.rest
  stands = expr_stands part.tree c.finish.end (no_lead c.finish.rest part.ended)

  -- names before the tokens that take no type arguments
  kept_list : (mid list : List Token) → mid ++ c.front ≡ list → Ended (mid ++ tokens) → TakesNone (mid ++ tokens) → TakesNone (list ++ c.more)
  kept_list mid [] is end none = none_without c.more (c.empty (no_front mid c.front is)).2.no_less
  kept_list mid (o ∷ inner) is end none = kept_by (is_sign "<" (symbol o)) refl
    where
      tokens_are : mid ++ tokens ≡ o ∷ (inner ++ c.tail)
      tokens_are = ap (λ ts. mid ++ ts) c.are ∙ sym (append_assoc mid c.front c.tail) ∙ ap (λ ts. ts ++ c.tail) is

      -- by whether type arguments may begin
      kept_by : (less : Bool) → is_sign "<" (symbol o) ≡ less → TakesNone (o ∷ (inner ++ c.more))
      kept_by false less = none_without (o ∷ (inner ++ c.more)) less
      kept_by true less = c.kept mid inner o tt is (is_sign-true "<" (symbol o) less) (subst Ended tokens_are end) (subst TakesNone tokens_are none)

  -- the same before other tokens than those behind the tree
  kept_piece : (new : List Token) → Kept c.finish.rest new → Kept tokens (stands.piece ++ new)
  kept_piece new k mid end none =
      let all = kept_list mid (mid ++ c.front) refl end none in
      let are : (mid ++ c.front) ++ c.more ≡ (mid ++ stands.piece) ++ c.finish.rest =
      append_assoc mid c.front c.more ∙ ap (λ ts. mid ++ ts) stands.are ∙ sym (append_assoc mid stands.piece c.finish.rest) in
      subst TakesNone (append_assoc mid stands.piece new) (k (mid ++ stands.piece) (ended_front (mid ++ stands.piece) c.finish.rest c.finish.end) (subst TakesNone are all))

  -- no expression begins with `else`
  head_else : (ts rest : List Token) → IsExpr ts c.finish.e rest → begins_with "else" ts ≡ false
  head_else ts rest e = sym (starts_is "else" ts) ∙ headed_not begins_expr "else" refl (expr_head e)

  -- what completes the tokens, before other tokens
  record Cut : Type 0 where
    more : List Token
    piece_is : stands.piece ≡ c.front ++ more
    more_is : c.more ≡ more ++ c.finish.rest

  -- what completes the tokens, by where the tree ends
  cut_by : b.many ≤ c.finish.n → Splits stands.piece c.finish.rest c.front c.more → Cut
  cut_by few (longer more is are) = record { more = more; piece_is = is; more_is = are }
  cut_by few (shorter t more is are) =
      absurd (omega (arith, few, n_is, c.here, expr_covered around part.tree, ap length stands.are, length-append stands.piece c.finish.rest, ap length is, length-append stands.piece (t ∷ more)))

  -- what completes the tokens of a way that the tree has
  cut : b.many ≤ c.finish.n → Cut
  cut few = cut_by few (splits stands.piece c.finish.rest c.front c.more (sym stands.are))

  module _ (k : Cut) where
    -- the tree stands before fine tokens
    tree_whole : (rest : List Token) → Fine rest → IsExpr (c.front ++ (k.more ++ rest)) c.finish.e rest
    tree_whole rest f =
        subst (λ ts. IsExpr ts c.finish.e rest) (ap (λ ts. ts ++ rest) k.piece_is ∙ append_assoc c.front k.more rest) (stands.stands rest (fine_both c.finish.rest rest f).kept)

    -- its tokens may stand in place of the others
    like : (rest : List Token) → Fine rest → Both tokens (c.front ++ (k.more ++ rest))
    like rest f =
        record {
          kept = subst (Kept tokens) (ap (λ ts. ts ++ rest) k.piece_is ∙ append_assoc c.front k.more rest) (kept_piece rest (fine_both c.finish.rest rest f).kept);
          no_else = λ h. head_else (c.front ++ (k.more ++ rest)) rest (tree_whole rest f);
        }

  -- a tree that has all tokens of the way
  pub covered : (all : List Token) → Stands all b.told → Noted at limit → long ≡ told_at 112 (at + 1024) (drop 1024 tokens) → b.many ≤ c.finish.n → Completes all (Wholes around) Fine Both at limit tokens b
  covered all there noted' long_is few =
      let k = cut few in
      record {
        front = c.front;
        tail = c.tail;
        are = c.are;
        here = c.here;
        more = k.more;
        tree = c.finish.e;
        entries = whole_entries around c.finish.e;
        whole = λ rest f. (tree_whole k rest f, refl);
        room = omega (arith, whole_covered around part.tree, ap length stands.are, length-append stands.piece c.finish.rest, ap length k.piece_is, length-append c.front k.more);
        spot = spot_is noted' long_is;
        alike = like k;
        stands = there;
      }

  -- where the tokens end in `>>=`, behind the tree
  module _ (p q r : Token) (g : Is ">" p) (j : joins p ">" q ≡ true) (h : joins q "=" r ≡ true) (rest_is : c.finish.rest ≡ p ∷ q ∷ r ∷ ending ∷ []) where
    -- `>>=` in place of the tokens behind the tree
    new_kept : (ts : List Token) → Kept c.finish.rest (p ∷ q ∷ r ∷ ts)
    new_kept ts = kept_shift c.finish.rest p q r ts g j h

    -- what completes the tokens up to `>>=`
    record CutShift : Type 0 where
      more : List Token
      are : c.front ++ more ≡ stands.piece ++ p ∷ q ∷ r ∷ []

    -- the same, by where the way ends
    cut_shift_by : b.many ≤ c.finish.n + 2 → Splits (stands.piece ++ p ∷ q ∷ r ∷ []) (ending ∷ []) c.front c.more → CutShift
    cut_shift_by few (longer more is are) = record { more = more; are = sym is }
    cut_shift_by few (shorter t more is are) =
        absurd (omega (
          arith,
          few,
          n_is,
          c.here,
          expr_covered around part.tree,
          ap length stands.are,
          length-append stands.piece c.finish.rest,
          ap length is,
          length-append (stands.piece ++ p ∷ q ∷ r ∷ []) (t ∷ more),
          length-append stands.piece (p ∷ q ∷ r ∷ []),
        ))

    -- the tree and the sign behind it, by what completes them
    shifted_by : (all : List Token) → Stands all b.told → Noted at limit → long ≡ told_at 112 (at + 1024) (drop 1024 tokens) → b.many ≤ c.finish.n + 2 → CutShift → Shifted all around at limit tokens b
    shifted_by all there noted' long_is few k =
        record {
          front = c.front;
          tail = c.tail;
          are = c.are;
          here = c.here;
          more = k.more;
          tree = c.finish.e;
          piece = stands.piece;
          p = p;
          q = q;
          r = r;
          greater = g;
          shifts = j;
          assigns = h;
          piece_is = k.are;
          whole = λ ts. stands.stands (p ∷ q ∷ r ∷ ts) (new_kept ts);
          room = omega (arith, few, n_is, c.here, whole_covered around part.tree, expr_covered around part.tree);
          spot = spot_is noted' long_is;
          alike = λ ts. record {
            kept = kept_piece (p ∷ q ∷ r ∷ ts) (new_kept ts);
            no_else = λ h. head_else (stands.piece ++ p ∷ q ∷ r ∷ ts) (p ∷ q ∷ r ∷ ts) (stands.stands (p ∷ q ∷ r ∷ ts) (new_kept ts));
          };
          stands = there;
        }

    -- the tree and the sign behind it
    pub shifted : (all : List Token) → Stands all b.told → Noted at limit → long ≡ told_at 112 (at + 1024) (drop 1024 tokens) → b.many ≤ c.finish.n + 2 → Shifted all around at limit tokens b
    shifted all there noted' long_is few =
        shifted_by all there noted' long_is few
        (cut_shift_by few (splits (stands.piece ++ p ∷ q ∷ r ∷ []) (ending ∷ []) c.front c.more
        (append_assoc stands.piece (p ∷ q ∷ r ∷ []) (ending ∷ []) ∙ ap (λ ts. stands.piece ++ ts) (sym rest_is) ∙ sym stands.are)))
