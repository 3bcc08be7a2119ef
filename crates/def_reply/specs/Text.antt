-- The text that tells replies. Callers count from 1, and the requests of each caller too.
use Rattle.std.specs.Prelude.{ℕ, List, [], ◌∷◌, ◌++◌, length, codes}
use Rattle.std.specs.Fmt.{decimal}
use Rattle.std.specs.List.{enumerate_from, flat_map}
use Rattle.sl_base.specs.declared.diag.Diag.{Diag}
use Rattle.sl_base.specs.Diag.{diagnostic_text}
use Rattle.sl_key.specs.declared.request.Reply.{Reply}
use Rattle.sl_key.specs.declared.request.Reply.TheVariants.{Made, Failed}
use Rattle.sl_key.specs.declared.request.Request.{Request}
use Rattle.sl_key.specs.declared.request.Request.TheVariants.{Make}
use Rattle.sl_key.specs.declared.request.Term.TheVariants.{Load}

-- a text as a line
abbrev pub line : List ℕ → List ℕ
line text = text ++ 10 ∷ []

-- a diagnostic as a line
abbrev pub diagnostic_line : Diag → List ℕ
diagnostic_line diagnostic = line (diagnostic_text diagnostic)

-- the word that a request is written with
abbrev pub word_of : Request → List ℕ
word_of (Make (Load name)) = codes "load"

-- how a reply's first line ends
abbrev pub outcome : Reply → List ℕ
outcome Made = codes "ok"
outcome (Failed diagnostics) = codes "failed " ++ decimal (length diagnostics)

-- the lines behind a reply's first line
abbrev pub details : Reply → List ℕ
details Made = []
details (Failed diagnostics) = flat_map diagnostic_line diagnostics

-- the first line of a reply: the numbers of the caller and of its request, the request's word and
-- the outcome
abbrev pub head_line : ℕ → ℕ → Request → Reply → List ℕ
head_line caller number request reply =
    line (decimal caller ++ (codes ":" ++ (decimal number
    ++ (codes " " ++ (word_of request ++ (codes " " ++ outcome reply))))))

-- the lines of a reply
abbrev pub reply_text : ℕ → ℕ → Request × Reply → List ℕ
reply_text caller number (request, reply) = head_line caller number request reply ++ details reply

-- the lines of a caller's replies
abbrev pub caller_text : ℕ → List (Request × Reply) → List ℕ
caller_text caller requests =
    flat_map (λ (numbered : ℕ × (Request × Reply)). reply_text caller numbered.0 numbered.1)
    (enumerate_from 1 requests)

-- the lines of the replies of callers
abbrev pub callers_text : List (List (Request × Reply)) → List ℕ
callers_text callers =
    flat_map (λ (numbered : ℕ × List (Request × Reply)). caller_text numbered.0 numbered.1)
    (enumerate_from 1 callers)

-- The text of all replies: for each caller its requests with their replies, in order, and last how
-- many queries were worked out.
abbrev pub out_text : List (List (Request × Reply)) → ℕ → List ℕ
out_text callers worked = callers_text callers ++ line (codes "worked " ++ decimal worked)

-- one caller with one request and its reply
abbrev pub only : Request → Reply → List (List (Request × Reply))
only request reply = ((request, reply) ∷ []) ∷ []
