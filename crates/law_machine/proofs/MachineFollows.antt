-- Each way that the machine leaves has a tree that goes as far.
use Rattle.std.proofs.Common.{◌≡◌, inl, inr, ℕ, zero, suc, ◌+◌, ◌<◌, ◌≤◌, true, false, List, [], ◌∷◌, ◌++◌, length, refl, sym, ap, subst, ◌∙◌, codes, arith, length-append, append_assoc, append-nil}
use Rattle.std.specs.Prelude.{Bool, Option, Some, None}
use Rattle.std.proofs.lemmas.Bool.{false≢true}
use Rattle.def_token.specs.Lexical.{Token}
use Rattle.def_tree.specs.ExprTree as tree
use Rattle.def_tree.specs.ExprTree.{ExprTree}
use Rattle.def_tree.specs.Expressions.{TakesNone}
use Rattle.def_tree.specs.Limits.{Nesting}
use Rattle.def_tree.specs.Operator.{operators, operator_text, ShiftRight, level, SignAt, sign_at, joins}
use Rattle.def_tree.specs.Statements.{begins_with}
use Rattle.def_tree.specs.Symbol.{Sign, symbol, is_sign, Is, IsName}
use Rattle.def_tree.specs.TypeTree.{TypeWord, word_text}
use Rattle.def_reading.specs.Cursor.{Told, Cursor, At, noted, FarthestFailure, reach_at, told_by, earlier, before}
use Rattle.def_reading.specs.TypeAhead.{Found, taken_ahead, leads_on}
use Rattle.def_reading.specs.TypeReading.{Ended}
use Rattle.def_reading.specs.Machine.{Frame, Left, InCall, Mode, Expected, Value, Dotted, Converting, Ends, Refused, nesting, bracket_opens, bound, whole, written, sign_of, behind_text, behinds, name_by, ends_by, operator_by, behind_by, step_at}
use Rattle.law_types.proofs.AheadComplete.{word_lead}
use Rattle.law_types.proofs.AheadFaults.{Within, Grows, same_limit, within_noted, grows_more, grows_noted, drive_grows, args_go, missing_dies, stage_closes}
use Rattle.law_types.proofs.AheadFaults as ahead
use Rattle.law_types.proofs.AheadKept.{drive_front, drive_append, completed, Harmless, harmless_stop, harmless_name, none_kept, none_over, stop_number, stop_bracket}
use Rattle.law_types.proofs.AheadSound.{taken_found}
use Rattle.law_types.proofs.AheadStages.{Dies, drive_first}
use Rattle.law_machine.proofs.MachineCloses.{closers, closers_stop, closers_end, IsStopped, Joinless, Finish, to_finish, value_finish, mode_finish, completion, completion_joinless, number, round, closing, some_name, ending, stop_joinless}
use Rattle.law_machine.proofs.MachineComplete.{config}
use Rattle.law_machine.proofs.MachineGrows.{Finishes, finished, finishes_grows, args_exact}
use Rattle.law_machine.proofs.MachineKinds.{Fits}
use Rattle.law_machine.proofs.MachineOpenEnds.{operates_so}
use Rattle.law_machine.proofs.MachineWays.{way_at, LeastOf, drive_within, within_more}
use Rattle.law_machine.proofs.SignParts.{shift_sign, assign_sign}
use Rattle.law_types.proofs.TypeStable.{cancel}
use Rattle.law_types.proofs.TypeStages.{Stage, Head, Named', Whole, Dot, Closed, mark_behind, named_by, next, entry, drive, some_pair}
use Rattle.law_tree.proofs.Words.{every_word}

-- words do not close type arguments
word_marks : (word : TypeWord) → (is_sign "<" (Sign (codes (word_text word))) ≡ false) × (is_sign "." (Sign (codes (word_text word))) ≡ false) × (is_sign "," (Sign (codes (word_text word))) ≡ false) × (is_sign ">" (Sign (codes (word_text word))) ≡ false)
word_marks = every_word (λ word. (is_sign "<" (Sign (codes (word_text word))) ≡ false) × (is_sign "." (Sign (codes (word_text word))) ≡ false) × (is_sign "," (Sign (codes (word_text word))) ≡ false) × (is_sign ">" (Sign (codes (word_text word))) ≡ false)) ((refl, refl, refl, refl), ((refl, refl, refl, refl), ((refl, refl, refl, refl), ((refl, refl, refl, refl), ((refl, refl, refl, refl), ((refl, refl, refl, refl), ((refl, refl, refl, refl), ((refl, refl, refl, refl), tt))))))))

some_is : {A : Type 0} (a b : A) → Some a ≡ Some b → a ≡ b
some_is a b h = cc

none_some : {A : Type 0} (o : Option A) (a : A) → o ≡ None → o ≡ Some a → ⊥
none_some o a h k = cc

word_mark_none : (word : TypeWord) (types many : ℕ) → mark_behind (Sign (codes (word_text word))) types many ≡ None
word_mark_none word types many = let w = word_marks word in rw (w.1, w.2, w.3) refl

word_open : (word : TypeWord) (stage s : Stage) → next stage (Sign (codes (word_text word))) ≡ Some s → s ≡ Closed → ⊥
word_open word (Head types many) s h k =
    let is : next (Head types many) (Sign (codes (word_text word))) ≡ Some (Whole types many) = rw (word_lead word) refl in
    let same : Whole types many ≡ s = some_is _ _ (sym is ∙ h) in cc
word_open word (Named' types many) s h k =
    none_some (next (Named' types many) (Sign (codes (word_text word)))) s (ap (λ b. named_by b types many (mark_behind (Sign (codes (word_text word))) types many)) (word_marks word).0 ∙ word_mark_none word types many) h
word_open word (Whole types many) s h k = none_some (next (Whole types many) (Sign (codes (word_text word)))) s (word_mark_none word types many) h
word_open word (Dot types many) s h k = none_some (next (Dot types many) (Sign (codes (word_text word)))) s refl h
word_open word Closed s h k = none_some (next Closed (Sign (codes (word_text word)))) s refl h

open_behind : (word : TypeWord) (first : Token) (front : List Token) (stage : Stage) (at : ℕ) (limit l : Option Told) → Is (word_text word) first → drive (Head 0 0) at limit (front ++ first ∷ []) ≡ Some (stage, l) → stage ≡ Closed → ⊥
open_behind word first front stage at limit l h d closed =
    let f = drive_front (Head 0 0) stage at limit l front (first ∷ []) d in
    let one = drive_first f.0 stage (at + length front) f.1 l first [] f.3 in
    word_open word f.0 one.0 (subst (λ s. next f.0 s ≡ Some one.0) h one.1) ((some_pair one.0 stage (noted f.1 (entry f.0) (at + length front) first) l one.2).0 ∙ closed)

word_less : (word : TypeWord) (t : Token) → Is (word_text word) t → Is "<" t → ⊥
word_less word t h k = false≢true (sym (word_marks word).0 ∙ ap (is_sign "<") (sym h ∙ k))

name_less : (t : Token) → IsName t → Is "<" t → ⊥
name_less t n h = cc

heads : (a b : Token) (more others : List Token) → a ∷ more ≡ b ∷ others → (a ≡ b) × (more ≡ others)
heads a b more others h = (cc, cc)

pub no_front : (t : Token) (ts : List Token) → t ∷ ts ≡ [] → ⊥
no_front t ts h = cc

harmless_stopped : (stage : Stage) (ts : List Token) → IsStopped ts → Harmless stage ts
harmless_stopped stage ts s =
    subst (Harmless stage) (sym s.are) (harmless_stop stage s.first s.others s.stop (λ closed h. false≢true (sym (ap leads_on (sym s.are) ∙ s.no_lead) ∙ h)))

harmless_named : (stage : Stage) (ts : List Token) → IsStopped ts → Harmless stage (some_name ∷ ts)
harmless_named stage ts s = subst (λ ts. Harmless stage (some_name ∷ ts)) (sym s.are) (harmless_name stage some_name s.first s.others refl s.stop)

-- what completes an expression closes no type arguments before it
kept_mode : (mode : Mode) (fs : List Frame) (before front tail : List Token) (opening : Token) → Fits mode before → before ≡ opening ∷ front → Is "<" opening → Ended (opening ∷ (front ++ tail)) → TakesNone (opening ∷ (front ++ tail))
    → (around : Nesting) (long : Option Told) → TakesNone (opening ∷ (front ++ completion around long mode fs))
kept_mode Expected fs before front tail opening fits is less end none around long =
    none_kept opening front tail (number ∷ closers fs) less end none (λ stage l h. harmless_stop stage number (closers fs) stop_number (λ closed k. false≢true k))
kept_mode (Value v) fs before front tail opening fits is less end none around long =
    none_kept opening front tail (closers fs) less end none (λ stage l h. harmless_stopped stage (closers fs) (closers_stop fs))
kept_mode (Dotted v) fs before front tail opening fits is less end none around long =
    none_kept opening front tail (some_name ∷ closers fs) less end none (λ stage l h. harmless_named stage (closers fs) (closers_stop fs))
kept_mode (Converting word first) fs before front tail opening fits is less end none around long =
    none_kept opening front tail (round ∷ number ∷ closing ∷ closers fs) less end none
    (λ stage l h. harmless_stop stage round (number ∷ closing ∷ closers fs) stop_bracket (λ closed k. converting_open fits.0 stage l (sym fits.1 ∙ is) h closed))
  where
    converting_open : (inner : List Token) (stage : Stage) (l : Option Told) → inner ++ first ∷ [] ≡ opening ∷ front → drive (Head 0 0) 1 None front ≡ Some (stage, l) → stage ≡ Closed → ⊥
    converting_open [] stage l same h closed = word_less word opening (subst (Is (word_text word)) (heads first opening [] front same).0 fits.2) less
    converting_open (t ∷ inner) stage l same h closed =
        open_behind word first inner stage 1 None l fits.2 (subst (λ front. drive (Head 0 0) 1 None front ≡ Some (stage, l)) (sym (heads t opening (inner ++ first ∷ []) front same).1) h) closed

ended_more : (t : Token) (ts : List Token) → Ended ts → Ended (t ∷ ts)
ended_more t [] e = absurd e
ended_more t (u ∷ ts) e = e

pub some_limit : (l l' : Option Told) (o : Option (Stage × Option Told)) → o ≡ Some (Closed, l) → o ≡ Some (Closed, l') → l ≡ l'
some_limit l l' o h k = limits (Closed, l) (Closed, l') (sym h ∙ k)
  where
    limits : (p q : Stage × Option Told) → Some p ≡ Some q → p.1 ≡ q.1
    limits p q h = let same : p ≡ q = cc in ap (λ (x : Stage × Option Told). x.1) same

-- a name before whose own type arguments go on over another's
name_kept : (before inner : List Token) (opening p o : Token) (piece greaters tail behind : List Token) (types at : ℕ) (limit l : Option Told) → IsName p → Is "<" o → before ++ p ∷ o ∷ piece ≡ opening ∷ inner → Is "<" opening
    → Ended (opening ∷ (inner ++ tail)) → TakesNone (opening ∷ (inner ++ tail)) → drive (Head types zero) at limit (piece ++ greaters) ≡ Some (Closed, l) → TakesNone (opening ∷ (inner ++ (greaters ++ round ∷ behind)))
name_kept [] inner opening p o piece greaters tail behind types at limit l n less is less' end none closes = absurd (name_less opening (subst IsName (heads p opening (o ∷ piece) inner is).0 n) less')
name_kept (x ∷ before) inner opening p o piece greaters tail behind types at limit l n less is less' end none closes =
    let inner_is : before ++ p ∷ o ∷ piece ≡ inner = (heads x opening (before ++ p ∷ o ∷ piece) inner is).1 in
    let tail_is : inner ++ tail ≡ before ++ p ∷ o ∷ (piece ++ tail) = ap (λ ts. ts ++ tail) (sym inner_is) ∙ append_assoc before (p ∷ o ∷ piece) tail in
    let more_is : before ++ p ∷ o ∷ ((piece ++ greaters) ++ round ∷ behind) ≡ inner ++ (greaters ++ round ∷ behind) =
    ap (λ ts. before ++ p ∷ o ∷ ts) (append_assoc piece greaters (round ∷ behind)) ∙ sym (append_assoc before (p ∷ o ∷ piece) (greaters ++ round ∷ behind)) ∙ ap (λ ts. ts ++ (greaters ++ round ∷ behind)) inner_is in
    subst (λ ts. TakesNone (opening ∷ ts)) more_is
    (none_over opening before piece tail greaters p o round behind types at limit l less' n less stop_bracket
    (subst (λ ts. Ended (opening ∷ ts)) tail_is end) (subst (λ ts. TakesNone (opening ∷ ts)) tail_is none) closes)

-- A tree has as many tokens as a way, unless the way ends in `>>=`, where an assignment may stand behind the tree.
pub data Over (assigns : Bool) (many n : ℕ) (rest : List Token) : Type 0 where
  covers : many ≤ n → Over assigns many n rest
  assigned : (p q r : Token) → assigns ≡ true → Is ">" p → joins p ">" q ≡ true → joins q "=" r ≡ true → rest ≡ p ∷ q ∷ r ∷ ending ∷ [] → n < many → many ≤ n + 2 → Over assigns many n rest

-- a tree that goes as far as a way
pub record Completion (around : Nesting) (long : Option Told) (assigns : Bool) (b : FarthestFailure) (fs : List Frame) (mode : Mode) (at : ℕ) (limit : Option Told) (toks : List Token) : Type 0 where
  pub front : List Token
  pub tail : List Token
  pub are : toks ≡ front ++ tail
  pub some_tail : tail ≡ [] → ⊥
  pub more : List Token
  pub finish : Finish around long (config fs mode at limit (front ++ more))
  pub limit' : Option Told
  pub least : ℕ
  pub first : Token
  pub others : List Token
  pub here : b.many ≡ at + length front
  pub told : told_by (earlier limit' (before least long)) b.many (first ∷ others) ≡ Some b.told
  pub grows : Grows b.many limit' finish.lf
  pub within : Within b.many limit'
  pub least_of : LeastOf finish.n b.many least
  pub over : Over assigns b.many finish.n finish.rest
  pub kept : (before inner : List Token) (opening : Token) → Fits mode before → before ++ front ≡ opening ∷ inner → Is "<" opening → Ended (opening ∷ (inner ++ tail)) → TakesNone (opening ∷ (inner ++ tail))
      → TakesNone (opening ∷ (inner ++ more))
  pub empty : front ≡ [] → (place : Cursor) × (step_at around long mode fs (At at limit toks) ≡ Refused place) × Joinless more

module _ (around : Nesting) (long : Option Told) (assigns' : Bool) (b : FarthestFailure) where
  -- where the machine is stuck
  pub stuck_completion : (fs : List Frame) (mode : Mode) (at : ℕ) (limit : Option Told) (t : Token) (ts : List Token) → step_at around long mode fs (At at limit (t ∷ ts)) ≡ Refused (At at limit (t ∷ ts)) → Within at limit
      → reach_at long at (At at limit (t ∷ ts)) ≡ Some b → Completion around long assigns' b fs mode at limit (t ∷ ts)
  stuck_completion fs mode at limit t ts refused w is =
      let way = way_at long at at limit t ts in
      let same : way.reach ≡ b = some_is way.reach b (sym way.is ∙ is) in
      let many : b.many ≡ at = ap (λ (r : FarthestFailure). r.many) (sym same) ∙ way.many in
      let finish = mode_finish around long mode fs at limit in
      let g = finishes_grows finish.finishes in
      record {
        front = [];
        tail = t ∷ ts;
        are = refl;
        some_tail = λ h. no_front t ts h;
        more = completion around long mode fs;
        finish = finish;
        limit' = limit;
        least = at;
        first = t;
        others = ts;
        here = omega (arith, many);
        told = subst (λ n. told_by (earlier limit (before at long)) n (t ∷ ts) ≡ Some b.told) (sym many) (way.told ∙ ap (λ (r : FarthestFailure). Some r.told) same);
        grows = subst (λ n. Grows n limit finish.lf) (sym many) g.1;
        within = subst (λ n. Within n limit) (sym many) w;
        least_of = inl (omega (arith, many, g.0), sym many);
        over = covers (omega (arith, many, g.0));
        kept = λ before inner opening fits is less end none. kept_mode mode fs before inner (t ∷ ts) opening fits (sym (append-nil before) ∙ is) less end none around long;
        empty = λ h. (At at limit (t ∷ ts), refused, completion_joinless around long mode fs);
      }

  -- where `>>=` does not go on, behind `>>`
  pub shift_completion : (fs : List Frame) (v : ExprTree) (at : ℕ) (limit : Option Told) (t p q : Token) (ts : List Token) → Is ">" t → joins t ">" p ≡ true → Within at limit
      → reach_at long (suc (suc at)) (At (suc (suc at)) limit (q ∷ ts)) ≡ Some b → Completion around long assigns' b fs (Value v) at limit (t ∷ p ∷ q ∷ ts)
  shift_completion fs v at limit t p q ts g j w is =
      let way = way_at long (suc (suc at)) (suc (suc at)) limit q ts in
      let same : way.reach ≡ b = some_is way.reach b (sym way.is ∙ is) in
      let many : b.many ≡ suc (suc at) = ap (λ (r : FarthestFailure). r.many) (sym same) ∙ way.many in
      let frames = Left (bound (level ShiftRight) v fs).0 ShiftRight t ∷ (bound (level ShiftRight) v fs).1 in
      let o = operates_so around long fs v at limit t (p ∷ number ∷ closers frames) (number ∷ closers frames) ShiftRight (shift_sign t p (number ∷ closers frames) g j ((stop_joinless number (closers frames) stop_number).no_equal p)) in
      let inner = mode_finish around long Expected frames (at + 2) limit in
      let finish = to_finish around long o.other (config frames Expected (at + 2) limit (number ∷ closers frames)) o.is inner in
      let grown = finishes_grows inner.finishes in
      record {
        front = t ∷ p ∷ [];
        tail = q ∷ ts;
        are = refl;
        some_tail = λ h. no_front q ts h;
        more = number ∷ closers frames;
        finish = finish;
        limit' = limit;
        least = suc (suc at);
        first = q;
        others = ts;
        here = omega (arith, many);
        told = subst (λ n. told_by (earlier limit (before (suc (suc at)) long)) n (q ∷ ts) ≡ Some b.told) (sym many) (way.told ∙ ap (λ (r : FarthestFailure). Some r.told) same);
        grows = subst (λ n. Grows n limit finish.lf) (omega (arith, many)) grown.1;
        within = subst (λ n. Within n limit) (sym many) (within_more at (suc (suc at)) limit (omega arith) w);
        least_of = inl (omega (arith, many, grown.0), sym many);
        over = covers (omega (arith, many, grown.0));
        kept = λ before inner opening fits is less end none.
            none_kept opening inner (q ∷ ts) (number ∷ closers frames) less end none (λ stage l h. harmless_stop stage number (closers frames) stop_number (λ closed k. false≢true k));
        empty = λ h. absurd (no_front t (p ∷ []) h);
      }

  -- Before `>>=` an expression may end.
  assign_step : (fs : List Frame) (v e : ExprTree) (at : ℕ) (limit : Option Told) (p q r : Token) (ts : List Token) → Is ">" p → joins p ">" q ≡ true → joins q "=" r ≡ true → whole v fs ≡ (e, [])
      → step_at around long (Value v) fs (At at limit (p ∷ q ∷ r ∷ ts)) ≡ Ends e (At at limit (p ∷ q ∷ r ∷ ts))
  assign_step fs v e at limit p q r ts g j k w =
      let toks = p ∷ q ∷ r ∷ ts in
      let none : sign_of behind_text behinds (symbol p) ≡ None = rw g refl in
      let no_op : written operator_text operators (sign_at (p ∷ q ∷ r ∷ ts)).0 ≡ None = ap (λ (x : SignAt). written operator_text operators x.0) (assign_sign p q r ts g j k) in
      ap (λ o. behind_by around long o v fs at p (q ∷ r ∷ ts) (At at limit toks)) none ∙ ap (λ o. operator_by around long o v fs at p (q ∷ r ∷ ts) (At at limit toks)) no_op
      ∙ ap (λ held. ends_by held toks (At at limit toks)) w

  pub assign_completion : (fs : List Frame) (v e : ExprTree) (at : ℕ) (limit : Option Told) (p q r : Token) (head : Token) (front tail more : List Token) (next : ℕ) (first : Token) (others : List Token)
      → (head ∷ front) ++ more ≡ p ∷ q ∷ r ∷ ending ∷ [] → Is ">" p → joins p ">" q ≡ true → joins q "=" r ≡ true → whole v fs ≡ (e, []) → Within at limit → next ≡ at + suc (length front)
      → ((stage : Stage) → Harmless stage more) → reach_at long at (At next limit (first ∷ others)) ≡ Some b → (tail ≡ [] → ⊥) → assigns' ≡ true → length front ≤ 1
      → Completion around long assigns' b fs (Value v) at limit (head ∷ (front ++ tail))
  assign_completion fs v e at limit p q r head front tail more next first others are g j k whole_is w next_is harmless is some may short =
      let way = way_at long at next limit first others in
      let same : way.reach ≡ b = some_is way.reach b (sym way.is ∙ is) in
      let many : b.many ≡ next = ap (λ (r : FarthestFailure). r.many) (sym same) ∙ way.many in
      record {
        front = head ∷ front;
        tail = tail;
        are = refl;
        some_tail = some;
        more = more;
        finish = record {
          e = e;
          n = at;
          lf = limit;
          rest = p ∷ q ∷ r ∷ ending ∷ [];
          finishes = subst (λ toks. Finishes around long (config fs (Value v) at limit toks) e at limit (p ∷ q ∷ r ∷ ending ∷ [])) (sym are) (finished (assign_step fs v e at limit p q r (ending ∷ []) g j k whole_is));
          end = refl;
        };
        limit' = limit;
        least = at;
        first = first;
        others = others;
        here = omega (arith, many, next_is);
        told = subst (λ n. told_by (earlier limit (before at long)) n (first ∷ others) ≡ Some b.told) (sym many) (way.told ∙ ap (λ (r : FarthestFailure). Some r.told) same);
        grows = same_limit;
        within = within_more at b.many limit (omega (arith, many, next_is)) w;
        least_of = inr (omega (arith, many, next_is), refl);
        over = assigned p q r may g j k refl (omega (arith, many, next_is)) (omega (arith, many, next_is, short));
        kept = λ before inner opening fits h less end none. none_kept opening inner tail more less end none (λ stage l d. harmless stage);
        empty = λ h. absurd (no_front head front h);
      }

  -- a name with the type arguments that were missed
  pub name_completion : (fs : List Frame) (at : ℕ) (limit : Option Told) (p o : Token) (ts : List Token) (at' : ℕ) (limit' : Option Told) (t : Token) (others : List Token) → IsName p → Is "<" o → Within (suc at) limit
      → (d : Dies (Head (nesting around fs).types zero) (suc (suc at)) limit ts at' limit' (t ∷ others)) → reach_at long at' (At at' limit' (t ∷ others)) ≡ Some b
      → Completion around long assigns' b fs Expected at limit (p ∷ o ∷ ts)
  name_completion fs at limit p o ts at' limit' t others n less w d is =
      let types = (nesting around fs).types in
      let way = way_at long at' at' limit' t others in
      let same : way.reach ≡ b = some_is way.reach b (sym way.is ∙ is) in
      let many : b.many ≡ at' = ap (λ (r : FarthestFailure). r.many) (sym same) ∙ way.many in
      let piece = d.alive.piece in
      let greaters = ahead.closers d.stage' in
      let closed = stage_closes d.stage' (suc (suc at) + length piece) limit' in
      let ends' : drive (Head types zero) (suc (suc at)) limit (piece ++ greaters) ≡ Some (Closed, closed.0) =
      drive_append (Head types zero) d.stage' Closed (suc (suc at)) limit limit' closed.0 piece greaters d.alive.drives.is closed.1 in
      let behind = closing ∷ closers fs in
      let done = completed types (suc at) limit o (piece ++ greaters) closed.0 round behind less refl ends' (ended_more closing (closers fs) (closers_end fs)) in
      let found = taken_found done.takes types (suc at) limit in
      let exact = args_exact types (suc at) limit done.takes found.at found.limit found.found in
      let g = args_go done.takes types (suc at) limit in
      let piece_is : g.pieces.piece ≡ piece ++ greaters = cancel g.pieces.piece (piece ++ greaters) (round ∷ behind) (sym g.pieces.are) in
      let v = tree.Name p done.args in
      let called = tree.Call v round tree.NoExprs in
      let limit'' = noted found.limit (bracket_opens around fs) found.at round in
      let inner = value_finish around long fs fs called called (suc (suc found.at)) limit'' refl in
      let assoc : (piece ++ greaters) ++ round ∷ behind ≡ piece ++ (greaters ++ round ∷ behind) = append_assoc piece greaters (round ∷ behind) in
      let begins : begins_with "<" (o ∷ (piece ++ (greaters ++ round ∷ behind))) ≡ true = rw less refl in
      let look : taken_ahead types (suc at) limit (o ∷ (piece ++ (greaters ++ round ∷ behind))) ≡ Found done.args (At found.at found.limit (round ∷ behind)) =
      ap (λ toks. taken_ahead types (suc at) limit (o ∷ toks)) (sym assoc) ∙ found.found in
      let at_named = config fs (Value v) found.at found.limit (round ∷ behind) in
      let finish : Finish around long (config fs Expected at limit (p ∷ o ∷ (piece ++ (greaters ++ round ∷ behind)))) =
      to_finish around long None at_named (rw (n, begins) (ap (λ look. name_by around long look fs p (At (suc at) limit (o ∷ (piece ++ (greaters ++ round ∷ behind))))) look))
      (to_finish around long None (config (InCall v round [] ∷ fs) Expected (suc found.at) limit'' behind) refl
      (to_finish around long None (config fs (Value called) (suc (suc found.at)) limit'' (closers fs)) refl inner)) in
      let grown = finishes_grows inner.finishes in
      let upto : at' ≤ found.at = omega (arith, d.alive.is_at, exact.0, g.pieces.is_at, ap length piece_is, length-append piece greaters) in
      let first_part : Grows at' limit' found.limit = subst (Grows at' limit') (sym exact.1)
      (subst (λ k. Grows k limit' g.pieces.limit') (sym d.alive.is_at)
      (drive_grows d.stage' Closed (suc (suc at) + length piece) limit' g.pieces.limit' greaters
      (closed.1 ∙ ap (λ l. Some (Closed, l)) (some_limit closed.0 g.pieces.limit' (drive (Head types zero) (suc (suc at)) limit (piece ++ greaters)) ends' (ap (drive (Head types zero) (suc (suc at)) limit) (sym piece_is) ∙ g.pieces.drives.is))))) in
      let second_part : Grows found.at found.limit limit'' = grows_noted found.at found.limit (bracket_opens around fs) round in
      let all : Grows at' limit' finish.lf = grows_more at' found.at limit' found.limit finish.lf upto first_part
      (grows_more found.at (suc (suc found.at)) found.limit limit'' finish.lf (omega arith) second_part grown.1) in
      let within : Within at' limit' = subst (λ k. Within k limit') (sym d.alive.is_at)
      (drive_within (Head types zero) d.stage' (suc (suc at)) limit limit' piece d.alive.drives.is (within_more (suc at) (suc (suc at)) limit (omega arith) w)) in
      record {
        front = p ∷ o ∷ piece;
        tail = t ∷ others;
        are = ap (λ ts. p ∷ o ∷ ts) d.alive.are;
        some_tail = λ h. no_front t others h;
        more = greaters ++ round ∷ behind;
        finish = finish;
        limit' = limit';
        least = at';
        first = t;
        others = others;
        here = omega (arith, many, d.alive.is_at);
        told = subst (λ n. told_by (earlier limit' (before at' long)) n (t ∷ others) ≡ Some b.told) (sym many) (way.told ∙ ap (λ (r : FarthestFailure). Some r.told) same);
        grows = subst (λ k. Grows k limit' finish.lf) (sym many) all;
        within = subst (λ k. Within k limit') (sym many) within;
        least_of = inl (omega (arith, many, upto, grown.0), sym many);
        over = covers (omega (arith, many, upto, grown.0));
        kept = λ before inner opening fits h less' end none. name_kept before inner opening p o piece greaters (t ∷ others) behind types (suc (suc at)) limit closed.0 n less h less' end none ends';
        empty = λ h. absurd (no_front p (o ∷ piece) h);
      }
