-- Callers with the same requests have one text.
use Rattle.std.proofs.Common.{◌≡◌, ◌∙◌, ℕ, suc, ◌+◌, refl, sym, ap, subst, List, [], ◌∷◌, ◌++◌, map, length}
use Rattle.std.specs.Fmt.{decimal}
use Rattle.std.specs.List.{AllByRecursion, enumerate_from, flat_map}
use Rattle.std.specs.Prelude.{codes}
use Rattle.sl_base.specs.Diag.{diagnostic_text}
use Rattle.sl_base.specs.declared.diag.Diag.{Diag}
use Rattle.sl_key.specs.declared.key.Key.{Key}
use Rattle.sl_key.specs.declared.request.Reply.{Reply}
use Rattle.sl_key.specs.declared.request.Reply.TheVariants.{Made, Failed}
use Rattle.sl_key.specs.declared.request.Request.{Request}
use Rattle.def_check.specs.Laws.{SayTheSame}
use Rattle.def_check.specs.Reply.{IsClosure, IsReply}
use Rattle.def_check.proofs.Replies.{one_reply}
use Rattle.def_reply.specs.Laws.{OneText}
use Rattle.def_reply.specs.Text.{caller_text, details, diagnostic_line, line, out_text, outcome, reply_text, word_of}
use Rattle.def_reply.specs.Worked.{AreReplied, requests_in}
use Rattle.def_reply.proofs.OneClosure.{one_closure}
use Rattle.def_sources.specs.Sources.{Sources}

-- the lines of diagnostics are made of their texts
lines_of : (told : List Diag) → flat_map diagnostic_line told ≡ flat_map line (map diagnostic_text told)
lines_of [] = refl
lines_of (first ∷ told) = ap (λ lines. diagnostic_line first ++ lines) (lines_of told)

count_of : (told : List Diag) → length (map diagnostic_text told) ≡ length told
count_of [] = refl
count_of (first ∷ told) = ap suc (count_of told)

same_details : (one other : Reply) → SayTheSame one other → details one ≡ details other
same_details Made Made same = refl
same_details Made (Failed others) same = absurd same
same_details (Failed told) Made same = absurd same
same_details (Failed told) (Failed others) same =
    lines_of told ∙ (ap (flat_map line) same ∙ sym (lines_of others))

same_outcome : (one other : Reply) → SayTheSame one other → outcome one ≡ outcome other
same_outcome Made Made same = refl
same_outcome Made (Failed others) same = absurd same
same_outcome (Failed told) Made same = absurd same
same_outcome (Failed told) (Failed others) same =
    ap (λ n. codes "failed " ++ decimal n) (sym (count_of told) ∙ (ap length same ∙ count_of others))

-- the lines of a reply, by the end of the first one and the lines behind it
abbrev lines_with : ℕ → ℕ → Request → List ℕ → List ℕ → List ℕ
lines_with caller number request ending lines =
    line (decimal caller ++ (codes ":" ++ (decimal number
    ++ (codes " " ++ (word_of request ++ (codes " " ++ ending))))))
    ++ lines

same_reply : (caller number : ℕ) (request : Request) (one other : Reply) → SayTheSame one other
    → reply_text caller number (request, one) ≡ reply_text caller number (request, other)
same_reply caller number request one other same =
    ap (λ ending. lines_with caller number request ending (details one)) (same_outcome one other same)
    ∙ ap (λ lines. lines_with caller number request (outcome other) lines) (same_details one other same)

abbrev Answered : Type 0
Answered = Request × Reply

module _ (sources : Sources) where
  abbrev AllReplied : List Answered → Type 0
  AllReplied = AllByRecursion (λ (one : Answered). IsReply sources one.0 one.1)

  same_one : (caller number : ℕ) (request asked : Request) (one other : Reply) → request ≡ asked
      → IsReply sources request one → IsReply sources asked other
      → reply_text caller number (request, one) ≡ reply_text caller number (asked, other)
  same_one caller number request asked one other e h k =
      same_reply caller number request one other
      (one_reply sources request one other h (subst (λ r. IsReply sources r other) (sym e) k))
      ∙ ap (λ r. reply_text caller number (r, other)) e

  same_lines : (caller number : ℕ) (one other : List Answered)
      → map (λ (a : Answered). a.0) one ≡ map (λ (a : Answered). a.0) other
      → AllReplied one → AllReplied other
      → flat_map (λ (n : ℕ × Answered). reply_text caller n.0 n.1) (enumerate_from number one)
      ≡ flat_map (λ (n : ℕ × Answered). reply_text caller n.0 n.1) (enumerate_from number other)
  same_lines caller number [] [] e h k = refl
  same_lines caller number [] (y ∷ ys) e h k = absurd (cc)
  same_lines caller number (x ∷ xs) [] e h k = absurd (cc)
  same_lines caller number ((r, a) ∷ xs) ((s, b) ∷ ys) e h k =
      let first : r ≡ s = cc in
      let rest : map (λ (a : Answered). a.0) xs ≡ map (λ (a : Answered). a.0) ys = cc in
      ap (λ lines. lines ++ flat_map (λ (n : ℕ × Answered). reply_text caller n.0 n.1) (enumerate_from (number + 1) xs))
      (same_one caller number r s a b first h.0 k.0)
      ∙ ap (λ lines. reply_text caller number (s, b) ++ lines) (same_lines caller (number + 1) xs ys rest h.1 k.1)

  same_callers : (caller : ℕ) (one other : List (List Answered)) → requests_in one ≡ requests_in other
      → AreReplied sources one → AreReplied sources other
      → flat_map (λ (n : ℕ × List Answered). caller_text n.0 n.1) (enumerate_from caller one)
      ≡ flat_map (λ (n : ℕ × List Answered). caller_text n.0 n.1) (enumerate_from caller other)
  same_callers caller [] [] e h k = refl
  same_callers caller [] (y ∷ ys) e h k = absurd (cc)
  same_callers caller (x ∷ xs) [] e h k = absurd (cc)
  same_callers caller (x ∷ xs) (y ∷ ys) e h k =
      let first : map (λ (a : Answered). a.0) x ≡ map (λ (a : Answered). a.0) y = cc in
      let rest : requests_in xs ≡ requests_in ys = cc in
      ap (λ lines. lines ++ flat_map (λ (n : ℕ × List Answered). caller_text n.0 n.1) (enumerate_from (caller + 1) xs))
      (same_lines caller 1 x y first h.0 k.0)
      ∙ ap (λ lines. caller_text caller y ++ lines) (same_callers (caller + 1) xs ys rest h.1 k.1)

pub one_text : OneText
one_text sources one other keys others e h k =
    let closure : IsClosure sources (flat_map (λ requests. requests) (requests_in other)) keys =
    subst (λ asked. IsClosure sources (flat_map (λ requests. requests) asked) keys) e h.closure in
    ap (λ lines. lines ++ line (codes "worked " ++ decimal (length keys)))
    (same_callers sources 1 one other e h.replied k.replied)
    ∙ ap (λ (ks : List Key). out_text other (length ks))
    (one_closure sources (flat_map (λ requests. requests) (requests_in other)) keys others closure k.closure)
