-- The tokens of a text, or its first lexical fault, are those that `lexed` tells.
use Rattle.std.proofs.Common.{◌≡◌, ◌∙◌, refl, sym, ap, subst, ℕ, zero, suc, ◌≤◌, Bool, true, false, List, [], ◌∷◌, ◌++◌, length, drop, arith, append_assoc, append-nil, length-drop}
use Rattle.std.specs.Prelude.{Option, Some, None, Result, Ok, Err, ◌&&◌, if◌then◌else◌, nat_eq}
use Rattle.std.specs.List.{list_all, starts_with}
use Rattle.def_slang.specs.Token.{byte_order_mark, without_mark}
use Rattle.def_token.specs.Lexeme.{Cuts, Front, Piece}
use Rattle.def_token.specs.Lexical.{End, Fault, HasLexicalFault, HasTokens, IsFault, IsToken, Skipped, Token, Verdict, args_of, bytes_of, is_faultless, mark_before, no_fault, place_behind, token_behind, tokens_among, tokens_by, verdict}
use Rattle.law_token.proofs.Determined.{determined}
use Rattle.law_token.proofs.Pieces.{piece_some}
use Rattle.def_token.specs.Lexed.{TokensAreTold}
use Rattle.def_token.specs.Lexed.{front_of, lexed, piece_and, pieces_of, told_by, told_of}
use Rattle.law_token.proofs.Fronts.{IsFront, is_front, some_front}
use Rattle.law_token.proofs.Cutting.{starts_parts}

-- ---- pieces

cut_by : (most b : ℕ) (text : List ℕ) (o : Option Piece) → IsFront (b ∷ text) o → length (b ∷ text) ≤ suc most
    → ((rest : List ℕ) → length rest ≤ most → Cuts rest (pieces_of most rest) [])
    → Cuts (b ∷ text) (piece_and (pieces_of most) (b ∷ text) o) []
cut_by most b text None none fits cuts = absurd (some_front b text none)
cut_by most b text (Some piece) front fits cuts =
    let some = piece_some piece.class piece.bytes front.kind in
    let rest = drop (length piece.bytes) (b ∷ text) in
    (rest, front, cuts rest (omega (arith, some, fits, length-drop (length piece.bytes) (b ∷ text))))

-- the pieces are the whole text
cut : (most : ℕ) (text : List ℕ) → length text ≤ most → Cuts text (pieces_of most text) []
cut zero [] fits = refl
cut zero (b ∷ text) fits = absurd (omega (arith, fits))
cut (suc most) [] fits = refl
cut (suc most) (b ∷ text) fits = cut_by most b text (front_of (b ∷ text)) (is_front (b ∷ text)) fits (cut most)

cut_bytes : (text : List ℕ) (pieces : List Piece) → Cuts text pieces [] → bytes_of pieces ≡ text
cut_bytes text [] h = sym h
cut_bytes text (piece ∷ pieces) h = ap (λ bytes. piece.bytes ++ bytes) (cut_bytes h.0 pieces h.2) ∙ sym h.1.parts

-- the text is cut before a piece, and the piece is its front there
record IsCutAt (text : List ℕ) (earlier : List Piece) (piece : Piece) : Type 0 where
  rest : List ℕ
  after : List ℕ
  cut : Cuts text earlier rest
  front : Front rest piece after

cut_at : (text : List ℕ) (earlier : List Piece) (piece : Piece) (later : List Piece)
    → Cuts text (earlier ++ piece ∷ later) [] → IsCutAt text earlier piece
cut_at text [] piece later h = record { rest = text; after = h.0; cut = refl; front = h.1 }
cut_at text (first ∷ earlier) piece later h =
    let more = cut_at h.0 earlier piece later h.2 in
    record { rest = more.rest; after = more.after; cut = (h.0, h.1, more.cut); front = more.front }

-- ---- what is told of pieces

-- the pieces have no fault, and these tokens
record AreTokens (front : List ℕ) (pieces : List Piece) (tokens : List Token) : Type 0 where
  faultless : list_all is_faultless pieces ≡ true
  are : tokens ≡ tokens_among front pieces ++ token_behind (front ++ bytes_of pieces) End [] ∷ []

-- the first of the pieces with a fault has this one
record HaveFault (front : List ℕ) (pieces : List Piece) (fault : Fault) : Type 0 where
  earlier : List Piece
  piece : Piece
  later : List Piece
  parts : pieces ≡ earlier ++ piece ∷ later
  faultless : list_all is_faultless earlier ≡ true
  faulty : verdict piece ≡ IsFault fault.code
  args_are : fault.args ≡ args_of fault.code piece.bytes
  place_is : fault.place ≡ place_behind (front ++ bytes_of earlier)

abbrev IsTold : List ℕ → List Piece → Result (List Token) Fault → Type 0
IsTold front pieces (Ok tokens) = AreTokens front pieces tokens
IsTold front pieces (Err fault) = HaveFault front pieces fault

-- a piece without a fault before pieces without one
both_faultless : (piece : Piece) (pieces : List Piece) (v : Verdict) → verdict piece ≡ v → no_fault v ≡ true
    → list_all is_faultless pieces ≡ true → list_all is_faultless (piece ∷ pieces) ≡ true
both_faultless piece pieces v is none all = ap (λ b. b && list_all is_faultless pieces) (ap no_fault is ∙ none) ∙ all

-- behind a piece stand its bytes
behind_piece : (front : List ℕ) (piece : Piece) (pieces : List Piece)
    → (front ++ piece.bytes) ++ bytes_of pieces ≡ front ++ bytes_of (piece ∷ pieces)
behind_piece front piece pieces = append_assoc front piece.bytes (bytes_of pieces)

more_tokens : (front : List ℕ) (piece : Piece) (pieces : List Piece) (tokens : List Token) (v : Verdict)
    → verdict piece ≡ v → no_fault v ≡ true
    → AreTokens (front ++ piece.bytes) pieces tokens
    → AreTokens front (piece ∷ pieces) (tokens_by v front piece.bytes ++ tokens)
more_tokens front piece pieces tokens v is none h =
    let own = tokens_by v front piece.bytes in
    let among = tokens_among (front ++ piece.bytes) pieces in
    let end = token_behind (front ++ bytes_of (piece ∷ pieces)) End [] in
    let behind = ap (λ bytes. among ++ token_behind bytes End [] ∷ []) (behind_piece front piece pieces) in
    record {
      faultless = both_faultless piece pieces v is none h.faultless;
      are = ap (λ ts. own ++ ts) (h.are ∙ behind)
          ∙ sym (append_assoc own among (end ∷ []))
          ∙ ap (λ u. (tokens_by u front piece.bytes ++ among) ++ end ∷ []) (sym is);
    }

later_fault : (front : List ℕ) (piece : Piece) (pieces : List Piece) (fault : Fault) (v : Verdict) → verdict piece ≡ v
    → no_fault v ≡ true
    → HaveFault (front ++ piece.bytes) pieces fault → HaveFault front (piece ∷ pieces) fault
later_fault front piece pieces fault v is none h =
    record {
      earlier = piece ∷ h.earlier;
      piece = h.piece;
      later = h.later;
      parts = ap (λ ps. piece ∷ ps) h.parts;
      faultless = both_faultless piece h.earlier v is none h.faultless;
      faulty = h.faulty;
      args_are = h.args_are;
      place_is = h.place_is ∙ ap place_behind (behind_piece front piece h.earlier);
    }

told_step : (front : List ℕ) (piece : Piece) (pieces : List Piece) (v : Verdict) (more : Result (List Token) Fault)
    → verdict piece ≡ v
    → IsTold (front ++ piece.bytes) pieces more → IsTold front (piece ∷ pieces) (told_by v front piece more)
told_step front piece pieces Skipped (Ok tokens) is h = more_tokens front piece pieces tokens Skipped is refl h
told_step front piece pieces Skipped (Err fault) is h = later_fault front piece pieces fault Skipped is refl h
told_step front piece pieces (IsToken kind) (Ok tokens) is h =
    more_tokens front piece pieces tokens (IsToken kind) is refl h
told_step front piece pieces (IsToken kind) (Err fault) is h =
    later_fault front piece pieces fault (IsToken kind) is refl h
told_step front piece pieces (IsFault code) more is h =
    record {
      earlier = [];
      piece = piece;
      later = pieces;
      parts = refl;
      faultless = refl;
      faulty = is;
      args_are = refl;
      place_is = ap place_behind (sym (append-nil front));
    }

told_is : (front : List ℕ) (pieces : List Piece) → IsTold front pieces (told_of front pieces)
told_is front [] =
    record { faultless = refl; are = ap (λ bytes. token_behind bytes End [] ∷ []) (sym (append-nil front)) }
told_is front (piece ∷ pieces) =
    let behind = front ++ piece.bytes in
    told_step front piece pieces (verdict piece) (told_of behind pieces) refl (told_is behind pieces)

-- ---- texts

mark_by : (b : Bool) (text : List ℕ) → starts_with nat_eq text byte_order_mark ≡ b
    → (if b then byte_order_mark else []) ++ (if b then drop 3 text else text) ≡ text
mark_by true text is = sym (starts_parts byte_order_mark text is)
mark_by false text is = refl

-- a text is its byte order mark and what stands behind it
mark_parts : (text : List ℕ) → mark_before text ++ without_mark text ≡ text
mark_parts text = mark_by (starts_with nat_eq text byte_order_mark) text refl

-- what is told of a text
abbrev Holds : List ℕ → Result (List Token) Fault → Type 0
Holds text (Ok tokens) = HasTokens text tokens
Holds text (Err fault) = HasLexicalFault text fault

holds_by : (text : List ℕ) (pieces : List Piece) (told : Result (List Token) Fault)
    → Cuts (without_mark text) pieces [] → IsTold (mark_before text) pieces told → Holds text told
holds_by text pieces (Ok tokens) c h =
    record {
      pieces = pieces;
      cut = c;
      faultless = h.faultless;
      tokens_are = h.are
          ∙ ap (λ bytes. tokens_among (mark_before text) pieces ++ token_behind bytes End [] ∷ [])
          (ap (λ bytes. mark_before text ++ bytes) (cut_bytes (without_mark text) pieces c) ∙ mark_parts text);
    }
holds_by text pieces (Err fault) c h =
    let all = subst (λ ps. Cuts (without_mark text) ps []) h.parts c in
    let at = cut_at (without_mark text) h.earlier h.piece h.later all in
    record {
      pieces = h.earlier;
      rest = at.rest;
      piece = h.piece;
      after = at.after;
      cut = at.cut;
      faultless = h.faultless;
      front = at.front;
      faulty = h.faulty;
      args_are = h.args_are;
      place_is = h.place_is;
    }

-- what is told of a text holds of it
holds : (text : List ℕ) → Holds text (lexed text)
unfolding lexed
holds text =
    let rest = without_mark text in
    let pieces = pieces_of (length rest) rest in
    let all = cut (length rest) rest (omega arith) in
    holds_by text pieces (told_of (mark_before text) pieces) all (told_is (mark_before text) pieces)

-- what holds is told
one_tokens : (text : List ℕ) (tokens : List Token) (told : Result (List Token) Fault) → Holds text told
    → HasTokens text tokens → told ≡ Ok tokens
one_tokens text tokens (Ok others) h k = ap Ok ((determined text).tokens others tokens h k)
one_tokens text tokens (Err fault) h k = absurd ((determined text).one tokens fault k h)

one_fault : (text : List ℕ) (fault : Fault) (told : Result (List Token) Fault) → Holds text told → HasLexicalFault text fault
    → told ≡ Err fault
one_fault text fault (Ok tokens) h k = absurd ((determined text).one tokens fault h k)
one_fault text fault (Err other) h k = ap Err ((determined text).fault other fault h k)

pub tokens_are_told : TokensAreTold
tokens_are_told text =
    record {
      tokens = λ tokens. (λ is. subst (Holds text) is (holds text), one_tokens text tokens (lexed text) (holds text));
      fault = λ fault. (λ is. subst (Holds text) is (holds text), one_fault text fault (lexed text) (holds text));
    }
