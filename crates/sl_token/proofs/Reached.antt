-- How far the lexer has come.
use Rattle.std.proofs.Common.{◌≡◌, ℕ, zero, suc, ◌+◌, ◌-◌, ◌<◌, ◌≤◌, Bool, true, false, not, cond, List, [], ◌∷◌, ◌++◌, length, take, drop, refl, sym, ap, subst, ◌∙◌, arith, append_assoc, length-append, length-drop}
use Rattle.std.specs.Prelude.{if◌then◌else◌, nat_eq}
use Rattle.std.specs.List.{All, count_by, list_all, prefix_len, starts_with, suffix_len}
use Rattle.std.proofs.lemmas.Bool.{and_from}
use Rattle.std.proofs.lemmas.List.{append-nil, map-append, reverse-append, take-append-drop}
use Rattle.std.proofs.lemmas.List.Elements.{All-append}
use Rattle.std.proofs.lemmas.List.Folds.{list_all-append}
use Rattle.std.proofs.lemmas.List.Sums.{count_by-le-length, sum_by-append, suffix_len-le-length}
use Rattle.std.proofs.lemmas.Slice.Eq.{bytes_eq-Decides}
use Rattle.std.proofs.Math.Seq.{take-append_seam, drop-append_seam}
use Rattle.def_token.specs.Lexeme.{Class, Piece, Front, Cuts, is_in_line, is_line_feed}
use Rattle.def_token.specs.Lexical as definition
use Rattle.def_token.specs.Lexical.{End, HasLexicalFault, HasTokens, IsFault, IsToken, Skipped, Verdict, bytes_of, is_faultless, mark_before, no_fault, place_behind, token_behind, tokens_among, tokens_by, tokens_of, verdict}
use Rattle.def_slang.specs.Token.{byte_order_mark, without_mark}
use Rattle.sl_token.proofs.Fronts.{first_is, first_some}
use Rattle.sl_token.proofs.Heads.{IsFirst, front_of}
use Rattle.sl_token.specs.Cutting.{Cut, first_piece, piece_by}
use Rattle.sl_token.specs.Moving.{Adds, IsBehind, IsTokenAt, TellsVerdict, mark_len, place_after}
use Rattle.sl_token.specs.View.{IsWithin, Tells, place_of, slice_of, token_in, tokens_in}
use Rattle.sl_base.specs.declared.refusal.Refusal.{Refusal}
use Rattle.sl_base.specs.declared.refusal.Refusal.TheVariants as refusals
use Rattle.sl_token.specs.declared.position.Position.{Position}
use Rattle.sl_token.specs.declared.token.Token.{Token}

abbrev place_with : ℕ → ℕ → definition.Place
place_with line column = record { line = line; column = column }

-- places: one byte further
lines_further : (before : List ℕ) (b : ℕ) → count_by is_line_feed (before ++ b ∷ []) ≡ count_by is_line_feed before + cond (is_line_feed b) 1 0
lines_further before b =
    let more = sum_by-append (λ c. cond (is_line_feed c) 1 0) before (b ∷ []) in
    omega arith

column_further : (before : List ℕ) (b : ℕ) → suffix_len is_in_line (before ++ b ∷ []) ≡ cond (not (is_line_feed b)) (1 + suffix_len is_in_line before) 0
column_further before b = ap (prefix_len is_in_line) (reverse-append before (b ∷ []))

step_by : (before : List ℕ) (b : ℕ) (t : Bool) → is_line_feed b ≡ t
    → (if t then place_with ((place_behind before).line + 1) 1 else place_with (place_behind before).line ((place_behind before).column + 1))
    ≡ place_behind (before ++ b ∷ [])
step_by before b true h =
    let line : (place_behind before).line + 1 ≡ (place_behind (before ++ b ∷ [])).line = omega (arith, lines_further before b, ap {B = ℕ} (λ t. cond t 1 0) h) in
    let column : 1 ≡ (place_behind (before ++ b ∷ [])).column = omega (arith, column_further before b, ap {B = ℕ} (λ t. cond (not t) (1 + suffix_len is_in_line before) 0) h) in
    ap (λ n. place_with n 1) line ∙ ap (place_with (place_behind (before ++ b ∷ [])).line) column
step_by before b false h =
    let line : (place_behind before).line ≡ (place_behind (before ++ b ∷ [])).line = omega (arith, lines_further before b, ap {B = ℕ} (λ t. cond t 1 0) h) in
    let column : (place_behind before).column + 1 ≡ (place_behind (before ++ b ∷ [])).column = omega (arith, column_further before b, ap {B = ℕ} (λ t. cond (not t) (1 + suffix_len is_in_line before) 0) h) in
    ap (λ n. place_with n ((place_behind before).column + 1)) line ∙ ap (place_with (place_behind (before ++ b ∷ [])).line) column

place_moves : (before bytes : List ℕ) → place_after (place_behind before) bytes ≡ place_behind (before ++ bytes)
place_moves before [] = ap place_behind (sym (append-nil before))
place_moves before (b ∷ bytes) =
    ap (λ p. place_after p bytes) (step_by before b (is_line_feed b) refl) ∙ place_moves (before ++ b ∷ []) bytes ∙ ap place_behind (append_assoc before (b ∷ []) bytes)

-- a position behind some bytes, moved by more of them
pub moves : (before bytes : List ℕ) (here there : Position) → IsBehind before here → there.offset ≡ here.offset + length bytes
    → place_of there.place ≡ place_after (place_of here.place) bytes → IsBehind (before ++ bytes) there
moves before bytes here there h offset place =
    record {
      offset = omega (arith, h.offset, offset, length-append before bytes);
      place = place ∙ ap (λ p. place_after p bytes) h.place ∙ place_moves before bytes;
    }

-- a position's numbers are those of its offset at most
pub record IsSmall (text : List ℕ) (rest : List ℕ) (here : Position) : Type 0 where
  pub offset : here.offset + length rest ≡ length text
  pub line : here.place.line + length rest ≤ length text + 1
  pub column : here.place.column + length rest ≤ length text + 1

small : (text before rest : List ℕ) (here : Position) → text ≡ before ++ rest → IsBehind before here → IsSmall text rest here
small text before rest here parts h =
    let len : length text ≡ length before + length rest = ap length parts ∙ length-append before rest in
    record {
      offset = omega (arith, len, h.offset);
      line = omega (arith, len, ap (λ (p : definition.Place). p.line) h.place, count_by-le-length is_line_feed before);
      column = omega (arith, len, ap (λ (p : definition.Place). p.column) h.place, suffix_len-le-length is_in_line before);
    }

-- the tokens so far are those of pieces without a fault, behind which the rest stands
pub record Reached (text : List ℕ) (tokens : List Token) (rest : List ℕ) (here : Position) : Type 0 where
  pub pieces : List Piece
  pub cut : Cuts (without_mark text) pieces rest
  pub faultless : list_all is_faultless pieces ≡ true
  pub tokens_are : tokens_in text tokens ≡ tokens_among (mark_before text) pieces
  pub within : All (λ (token : Token). IsWithin (length text) token.span) tokens
  pub parts : text ≡ (mark_before text ++ bytes_of pieces) ++ rest
  pub behind : IsBehind (mark_before text ++ bytes_of pieces) here

pub reached_small : {text rest : List ℕ} {tokens : List Token} {here : Position} → Reached text tokens rest here → IsSmall text rest here
reached_small {text = text} {rest = rest} {here = here} r = small text (mark_before text ++ bytes_of r.pieces) rest here r.parts r.behind

-- the start
mark_by : (text : List ℕ) (t : Bool) → starts_with nat_eq text byte_order_mark ≡ t
    → (take (if t then 3 else 0) text ≡ (if t then byte_order_mark else [])) × ((if t then drop 3 text else text) ≡ drop (if t then 3 else 0) text)
mark_by text true h = (sym ((bytes_eq-Decides byte_order_mark (take 3 text)).0 h), refl)
mark_by text false h = (refl, refl)

pub start : (text mark rest : List ℕ) (n : ℕ) (first here : Position) → n ≡ mark_len text → mark ≡ take n text → rest ≡ drop n text → IsBehind [] first
    → here.offset ≡ first.offset + length mark → place_of here.place ≡ place_after (place_of first.place) mark → Reached text [] rest here
start text mark rest n first here count front back origin offset place =
    let by = mark_by text (starts_with nat_eq text byte_order_mark) refl in
    let mark_is : mark ≡ mark_before text = front ∙ ap (λ k. take k text) count ∙ by.0 in
    let whole : text ≡ mark ++ rest = sym (take-append-drop n text) ∙ ap (λ f. f ++ drop n text) (sym front) ∙ ap (λ b. mark ++ b) (sym back) in
    record {
      pieces = [];
      cut = by.1 ∙ ap (λ k. drop k text) (sym count) ∙ sym back;
      faultless = refl;
      tokens_are = refl;
      within = λ k d short. absurd (omega (arith, short));
      parts = whole ∙ ap (λ m. m ++ rest) (mark_is ∙ sym (append-nil (mark_before text)));
      behind = subst (λ b. IsBehind b here) (mark_is ∙ sym (append-nil (mark_before text))) (moves [] mark first here origin offset place);
    }

-- one piece further
cuts_further : (text : List ℕ) (pieces : List Piece) (rest : List ℕ) (piece : Piece) (after : List ℕ) → Cuts text pieces rest → Front rest piece after → Cuts text (pieces ++ piece ∷ []) after
cuts_further text [] rest piece after cut front = (after, subst (λ t. Front t piece after) (sym cut) front, refl)
cuts_further text (p ∷ pieces) rest piece after cut front = (cut.0, cut.1, cuts_further cut.0 pieces rest piece after cut.2 front)

bytes_further : (pieces : List Piece) (piece : Piece) → bytes_of (pieces ++ piece ∷ []) ≡ bytes_of pieces ++ piece.bytes
bytes_further [] piece = append-nil piece.bytes
bytes_further (p ∷ pieces) piece = ap (λ bs. p.bytes ++ bs) (bytes_further pieces piece) ∙ sym (append_assoc p.bytes (bytes_of pieces) piece.bytes)

tokens_further : (before : List ℕ) (pieces : List Piece) (piece : Piece) → tokens_among before (pieces ++ piece ∷ []) ≡ tokens_among before pieces ++ tokens_of (before ++ bytes_of pieces) piece
tokens_further before [] piece = append-nil (tokens_of before piece) ∙ ap (λ b. tokens_of b piece) (sym (append-nil before))
tokens_further before (p ∷ pieces) piece =
    ap (λ ts. tokens_of before p ++ ts) (tokens_further (before ++ p.bytes) pieces piece ∙ ap (λ b. tokens_among (before ++ p.bytes) pieces ++ tokens_of b piece) (append_assoc before p.bytes (bytes_of pieces)))
    ∙ sym (append_assoc (tokens_of before p) (tokens_among (before ++ p.bytes) pieces) (tokens_of (before ++ (p.bytes ++ bytes_of pieces)) piece))

-- the slice of a part
slice_is : (before bytes after : List ℕ) (text : List ℕ) (first last : ℕ) → text ≡ before ++ (bytes ++ after) → first ≡ length before → last ≡ length before + length bytes → take (last - first) (drop first text) ≡ bytes
slice_is before bytes after text first last parts start end =
    let count : last - first ≡ length bytes = omega arith in
    ap (λ n. take n (drop first text)) count
    ∙ ap (λ n. take (length bytes) (drop n text)) start
    ∙ ap (λ t. take (length bytes) (drop (length before) t)) parts
    ∙ ap (take (length bytes)) (drop-append_seam before (bytes ++ after))
    ∙ take-append_seam bytes after

abbrev token_with : definition.Kind → List ℕ → ℕ → ℕ → definition.Place → definition.Token
token_with kind text first last place = record { kind = kind; text = text; start = first; end = last; place = place }

token_is : (text before bytes after : List ℕ) (here : Position) (kind : definition.Kind) (token : Token) → text ≡ before ++ (bytes ++ after) → IsBehind before here
    → IsTokenAt here kind (length bytes) token → token_in text token ≡ token_behind before kind bytes
token_is text before bytes after here kind token parts h at =
    let first : token.span.start ≡ length before = at.start ∙ h.offset in
    let last : token.span.end ≡ length before + length bytes = at.end ∙ ap (λ n. n + length bytes) h.offset in
    let slice = slice_is before bytes after text token.span.start token.span.end parts first last in
    let place : place_of token.place ≡ place_behind before = ap place_of at.place ∙ h.place in
    ap (λ k. token_with k (slice_of text token.span) token.span.start token.span.end (place_of token.place)) at.kind
    ∙ ap (λ t. token_with kind t token.span.start token.span.end (place_of token.place)) slice
    ∙ ap (λ n. token_with kind bytes n token.span.end (place_of token.place)) first
    ∙ ap (λ n. token_with kind bytes (length before) n (place_of token.place)) (last ∙ sym (length-append before bytes))
    ∙ ap (token_with kind bytes (length before) (length (before ++ bytes))) place

-- the tokens with the one of a piece
pub record HasAdded (text : List ℕ) (old new : List Token) (added : List definition.Token) (no_fault : Bool) : Type 0 where
  pub tokens : tokens_in text new ≡ tokens_in text old ++ added
  pub within : All (λ (token : Token). IsWithin (length text) token.span) old → All (λ (token : Token). IsWithin (length text) token.span) new
  pub faultless : no_fault ≡ true

one_within : (text before bytes after : List ℕ) (here : Position) (kind : definition.Kind) (token : Token) → text ≡ before ++ (bytes ++ after) → IsBehind before here
    → IsTokenAt here kind (length bytes) token → IsWithin (length text) token.span
one_within text before bytes after here kind token parts h at =
    let len : length text ≡ length before + (length bytes + length after) = ap length parts ∙ length-append before (bytes ++ after) ∙ ap (λ n. length before + n) (length-append bytes after) in
    record { ordered = omega (arith, at.start, at.end); inside = omega (arith, at.end, h.offset, len) }

only_one : (P : Token → Type 0) (token : Token) → P token → All P (token ∷ [])
only_one P token h zero d short = h
only_one P token h (suc k) d short = absurd (omega (arith, short))

added_by : (text before bytes after : List ℕ) (here : Position) (v : Verdict) (old new : List Token) → text ≡ before ++ (bytes ++ after) → IsBehind before here
    → Adds v here (length bytes) old new → HasAdded text old new (tokens_by v before bytes) (no_fault v)
added_by text before bytes after here Skipped old new parts h adds =
    record {
      tokens = ap (tokens_in text) adds ∙ sym (append-nil (tokens_in text old));
      within = λ all. subst (λ ts. All (λ (token : Token). IsWithin (length text) token.span) ts) (sym adds) all;
      faultless = refl;
    }
added_by text before bytes after here (IsToken kind) old new parts h adds =
    let token = adds.0 in
    record {
      tokens = ap (tokens_in text) adds.1 ∙ map-append (token_in text) old (token ∷ [])
          ∙ ap (λ t. tokens_in text old ++ t ∷ []) (token_is text before bytes after here kind token parts h adds.2);
      within = λ all. subst (λ ts. All (λ (t : Token). IsWithin (length text) t.span) ts) (sym adds.1)
          (All-append (λ (t : Token). IsWithin (length text) t.span) old (token ∷ []) all
          (only_one (λ (t : Token). IsWithin (length text) t.span) token (one_within text before bytes after here kind token parts h adds.2)));
      faultless = refl;
    }
added_by text before bytes after here (IsFault code) old new parts h adds = absurd adds

pub further : (text : List ℕ) (tokens new : List Token) (rest : List ℕ) (here there : Position) (piece : Piece) (after : List ℕ) → Reached text tokens rest here
    → Front rest piece after → Adds (verdict piece) here (length piece.bytes) tokens new
    → there.offset ≡ here.offset + length piece.bytes → place_of there.place ≡ place_after (place_of here.place) piece.bytes → Reached text new after there
further text tokens new rest here there piece after r front adds offset place =
    let before = mark_before text ++ bytes_of r.pieces in
    let parts : text ≡ before ++ (piece.bytes ++ after) = r.parts ∙ ap (λ t. before ++ t) front.parts in
    let added = added_by text before piece.bytes after here (verdict piece) tokens new parts r.behind adds in
    let behind : before ++ piece.bytes ≡ mark_before text ++ bytes_of (r.pieces ++ piece ∷ []) =
    append_assoc (mark_before text) (bytes_of r.pieces) piece.bytes ∙ ap (λ bs. mark_before text ++ bs) (sym (bytes_further r.pieces piece)) in
    record {
      pieces = r.pieces ++ piece ∷ [];
      cut = cuts_further (without_mark text) r.pieces rest piece after r.cut front;
      faultless = list_all-append is_faultless r.pieces (piece ∷ [])
          ∙ and_from (list_all is_faultless r.pieces) (list_all is_faultless (piece ∷ [])) r.faultless (and_from (is_faultless piece) true added.faultless refl);
      tokens_are = added.tokens ∙ ap (λ ts. ts ++ tokens_of before piece) r.tokens_are ∙ sym (tokens_further (mark_before text) r.pieces piece);
      within = added.within r.within;
      parts = parts ∙ sym (append_assoc before piece.bytes after) ∙ ap (λ bs. bs ++ after) behind;
      behind = subst (λ bs. IsBehind bs there) behind (moves before piece.bytes here there r.behind offset place);
    }

-- the end
nil_is : (rest : List ℕ) → length rest ≡ 0 → rest ≡ []
nil_is [] h = refl
nil_is (b ∷ rest) h = absurd (omega (arith, h))

pub at_end : (text : List ℕ) (tokens : List Token) (rest : List ℕ) (here : Position) → Reached text tokens rest here → length rest ≡ 0 → Reached text tokens [] here
at_end text tokens rest here r h = subst (λ bs. Reached text tokens bs here) (nil_is rest h) r

end_added : (text : List ℕ) (tokens new : List Token) (here : Position) (token : Token) → Reached text tokens [] here → new ≡ tokens ++ token ∷ [] → IsTokenAt here End 0 token
    → HasAdded text tokens new (token_behind text End [] ∷ []) true
end_added text tokens new here token r adds at =
    let before = mark_before text ++ bytes_of r.pieces in
    let whole : text ≡ before = r.parts ∙ append-nil before in
    added_by text text [] [] here (IsToken End) tokens new (sym (append-nil text)) (subst (λ bs. IsBehind bs here) (sym whole) r.behind) (token, adds, at)

pub has_tokens : (text : List ℕ) (tokens new : List Token) (here : Position) (token : Token) → Reached text tokens [] here → new ≡ tokens ++ token ∷ [] → IsTokenAt here End 0 token
    → HasTokens text (tokens_in text new)
has_tokens text tokens new here token r adds at =
    record {
      pieces = r.pieces;
      cut = r.cut;
      faultless = r.faultless;
      tokens_are = (end_added text tokens new here token r adds at).tokens ∙ ap (λ ts. ts ++ token_behind text End [] ∷ []) r.tokens_are;
    }

pub all_within : (text : List ℕ) (tokens new : List Token) (here : Position) (token : Token) → Reached text tokens [] here → new ≡ tokens ++ token ∷ [] → IsTokenAt here End 0 token
    → All (λ (t : Token). IsWithin (length text) t.span) new
all_within text tokens new here token r adds at = (end_added text tokens new here token r adds at).within r.within

-- a fault
pub has_fault : (text : List ℕ) (tokens : List Token) (rest : List ℕ) (here : Position) (piece : Piece) (after : List ℕ) (refusal : Refusal) → Reached text tokens rest here
    → Front rest piece after → TellsVerdict (verdict piece) piece.bytes here.place refusal → Tells (HasLexicalFault text) refusal
has_fault text tokens rest here piece after (refusals.Diag at code args) r front h =
    record {
      pieces = r.pieces;
      rest = rest;
      piece = piece;
      after = after;
      cut = r.cut;
      faultless = r.faultless;
      front = front;
      faulty = h.faulty;
      args_are = h.args_are;
      place_is = ap place_of h.place ∙ r.behind.place;
    }
has_fault text tokens rest here piece after refusals.NoMemory r front h = tt

-- the piece that the lexer cuts off
pub record IsCutOff (rest piece after : List ℕ) (class : Class) : Type 0 where
  pub some : length after < length rest
  pub front : Front rest (record { class = class; bytes = piece }) after

pub cut_off : (rest piece after : List ℕ) (cut : Cut) → IsFirst rest cut → piece ≡ take cut.1 rest → after ≡ drop cut.1 rest → IsCutOff rest piece after cut.0
cut_off rest piece after cut first is back =
    let some = first_some rest cut first in
    record {
      some = omega (arith, ap length back, length-drop cut.1 rest, first.within, some);
      front = subst (λ bytes. Front rest (record { class = cut.0; bytes = bytes }) after) (sym is) (subst (λ bytes. Front rest (piece_by rest cut) bytes) (sym back) (front_of rest cut first));
    }

pub first_at : (rest : List ℕ) (cut : Cut) → cut ≡ first_piece rest → 0 < length rest → IsFirst rest cut
first_at rest cut is some = subst (λ c. IsFirst rest c) (sym is) (first_is rest some)
