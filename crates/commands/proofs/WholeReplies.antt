-- What the contract of the top call says of a reply, of what is put of it, and of the counts of faults.
use Rattle.std.proofs.Common.{◌≡◌, ◌≢◌, ◌≤◌, ◌<◌, ◌∙◌, inl, inr, ℕ, List, [], ◌∷◌, length, take, Option, option_map, Err, codes, refl, sym, ap, subst, arith}
use Rattle.flow_base.specs.Counts.{Rose}
use Rattle.flow_base.specs.Loads.{Told}
use Rattle.flow_base.specs.Puts.{Taken, after_put}
use Rattle.command_line.specs.CommandLines.{IsNoCommand}
use Rattle.command_tasks.specs.declared.refusals.Refusal.{Refusal}
use Rattle.command_tasks.specs.declared.refusals.Refusal.TheVariants.{Load, Memory, Usage}
use Rattle.command_tasks.specs.LoadCounts.{CountsFault, KeepsCount}
use Rattle.command_tasks.specs.Loading.{IsLoadRefusal, Want}
use Rattle.command_tasks.specs.Statuses.{status_number}
use Rattle.command_tasks.specs.Tasks.{wants_of}
use Rattle.task_answers.specs.declared.replies.Reply.{Reply as MadeReply}
use Rattle.task_answers.specs.Replies.{Answer, told}
use Rattle.commands.specs.Clauses.{CountsFaults, IsPut, IsReply}
use Rattle.commands.specs.Lines.{IsOneLine}
use Rattle.commands.specs.Replies.{AnswersWords, IsAnswered, RefusesWords, Reply, reply_of}
use Rattle.commands.proofs.FineAnswers.{command_fine}
use Rattle.commands.proofs.FormStatuses.{form_status}
use Rattle.commands.proofs.Headlines.{headline_of}
use Rattle.commands.proofs.OneLine.{literal}
use Rattle.commands.proofs.Readings.{ReadsWords, reads_words, status_of, words_reading}

-- ---- the reply

usage_answer : (answer : Answer) (refusal : Refusal) → answer ≡ Err refusal → refusal ≡ Usage → answer ≡ Err Usage
usage_answer answer refusal e u = e ∙ ap (λ r. Err r) u

two_low : (n : ℕ) → n ≡ 2 → n ≤ 6
two_low n e = omega arith

two_five : (n : ℕ) → n ≡ 2 → n ≡ 5 → ⊥
two_five n e h = omega arith

usage_words : (source : Option Told) (words : List (List ℕ)) (answer : Answer) → ReadsWords source words answer →
    status_of answer ≡ 2 → IsNoCommand words
usage_words source words answer (inl (refusal, (none, u), e)) two = none
usage_words source words answer (inr (command, named, h)) two =
    absurd ((command_fine source command answer h).other two)

words_usage : (source : Option Told) (words : List (List ℕ)) (answer : Answer) → ReadsWords source words answer →
    IsNoCommand words → status_of answer ≡ 2
words_usage source words answer (inl (refusal, (none, u), e)) other = ap status_of (usage_answer answer refusal e u)
words_usage source words answer (inr (command, named, h)) other =
    absurd ((words_reading words).none command Usage named (other, refl))

low_status : (source : Option Told) (words : List (List ℕ)) (answer : Answer) → ReadsWords source words answer →
    status_of answer ≤ 6
low_status source words answer (inl (refusal, (none, u), e)) =
    two_low (status_of answer) (ap status_of (usage_answer answer refusal e u))
low_status source words answer (inr (command, named, h)) = (command_fine source command answer h).low

one_line : (source : Option Told) (words : List (List ℕ)) (answer : Answer) → ReadsWords source words answer →
    2 ≤ status_of answer → IsOneLine (told answer).text
one_line source words answer (inl (refusal, (none, u), e)) high =
    subst (λ a. IsOneLine (told a).text) (sym (usage_answer answer refusal e u))
    (record { line = codes "refused 2 usage"; ends = refl; one = (literal (codes "refused 2 usage") refl).none })
one_line source words answer (inr (command, named, h)) high = (command_fine source command answer h).line high

load_high : (wants : List Want) (refusal : Refusal) → IsLoadRefusal wants refusal → 1 < status_of (Err refusal)
load_high [] refusal is = absurd is
load_high (w ∷ wants) refusal (inl is) = let five = ap (λ r. status_of (Err r)) is in omega (arith, five)
load_high (w ∷ wants) refusal (inr (inl is)) = let six = ap (λ r. status_of (Err r)) is in omega (arith, six)
load_high (w ∷ wants) refusal (inr (inr is)) = load_high wants refusal is

refused_high : (source : Option Told) (words : List (List ℕ)) (refusal : Refusal) → RefusesWords source words refusal →
    1 < status_of (Err refusal)
refused_high source words refusal (inl (none, u)) = let two = ap (λ r. status_of (Err r)) u in omega (arith, two)
refused_high source words refusal (inr (command, named, inl loads)) = load_high (wants_of command) refusal loads.0
refused_high source words refusal (inr (command, named, inr (files, loads, form))) =
    let three = form_status command files refusal form in omega (arith, three)

low_high : (n m : ℕ) → n ≡ m → n ≤ 1 → 1 < m → ⊥
low_high n m e low high = omega arith

answered : (source : Option Told) (words : List (List ℕ)) (answer : Answer) → AnswersWords source words answer →
    status_of answer ≤ 1 → IsAnswered source words answer
answered source words answer (inl (refusal, refused, e)) low =
    absurd (low_high (status_of answer) (status_of (Err refusal)) (ap status_of e) low
    (refused_high source words refusal refused))
answered source words answer (inr it) low = it

pub is_reply : (source : Option Told) (words : List (List ℕ)) (answer : Answer) → AnswersWords source words answer →
    IsReply source words (reply_of answer)
is_reply source words answer answers =
    let read = reads_words source words answer answers in
    record {
      replies = record { answer = answer; answers = answers; tells = refl };
      usage = (usage_words source words answer read, words_usage source words answer read);
      low = low_status source words answer read;
      line = one_line source words answer read;
      answered = answered source words answer answers;
      headline = λ it. headline_of source words answer (told answer).text it;
    }

-- ---- what is put

same_told : (answer : Answer) (made : MadeReply) → made ≡ told answer →
    record { status = status_number made.status; text = made.text } ≡ reply_of answer
same_told answer made is = ap (λ (r : MadeReply). record { status = status_number r.status; text = r.text }) is

pub put_whole : (answer : Answer) (made : MadeReply) (status : ℕ) (before now : Option Taken) → made ≡ told answer →
    status ≡ status_number made.status → now ≡ option_map (after_put made.text) before →
    IsPut (reply_of answer) status before now
put_whole answer made status before now is number puts =
    subst (λ (r : Reply). IsPut r status before now) (same_told answer made is) (inl (number, puts))

pub put_part : (answer : Answer) (made : MadeReply) (status : ℕ) (before now : Option Taken) → made ≡ told answer →
    status ≡ 7 →
    (count : ℕ) × (count ≤ length made.text) × (now ≡ option_map (after_put (take count made.text)) before) →
    IsPut (reply_of answer) status before now
put_part answer made status before now is number puts =
    subst (λ (r : Reply). IsPut r status before now) (same_told answer made is) (inr (number, puts))

-- ---- counts of faults

load_of : (source : Option Told) (words : List (List ℕ)) (answer : Answer) → ReadsWords source words answer →
    status_of answer ≡ 5 → (name : List ℕ) × (answer ≡ Err (Load name))
load_of source words answer (inl (refusal, (none, u), e)) five =
    absurd (two_five (status_of answer) (ap status_of (usage_answer answer refusal e u)) five)
load_of source words answer (inr (command, named, h)) five = (command_fine source command answer h).load five

low_seven : (n m : ℕ) → n ≡ m → m ≤ 6 → n ≡ 7 → ⊥
low_seven n m e low seven = omega arith

pub faults_put : (source : Option Told) (words : List (List ℕ)) (answer : Answer) (made : MadeReply)
    (status loads_before loads puts_before puts : ℕ) → AnswersWords source words answer → answer ≢ Err Memory →
    made ≡ told answer → status ≡ status_number made.status → CountsFault answer loads_before loads →
    KeepsCount answer loads_before loads → puts ≡ puts_before →
    CountsFaults status loads_before loads puts_before puts
faults_put source words answer made status loads_before loads puts_before puts answers known is number cause kept same =
    let statuses : status ≡ status_of answer = number ∙ ap (λ (r : MadeReply). status_number r.status) is in
    let read = reads_words source words answer answers in
    record {
      load_failed = λ five.
          let load = load_of source words answer read (sym statuses ∙ five) in
          cause load.0 load.1;
      put_failed = λ seven. absurd (low_seven status (status_of answer) statuses (low_status source words answer read) seven);
      puts_kept = λ other. same;
      loads_kept = λ five. λ seven. λ eight. kept known (λ name. λ e. five (statuses ∙ ap status_of e));
    }

pub faults_unput : (status loads_before loads puts_before puts : ℕ) → status ≡ 7 → Rose puts_before puts →
    CountsFaults status loads_before loads puts_before puts
faults_unput status loads_before loads puts_before puts is rose = record {
  load_failed = λ five. absurd (omega (arith, is, five));
  put_failed = λ seven. rose;
  puts_kept = λ other. absurd (other is);
  loads_kept = λ five. λ seven. λ eight. absurd (seven is);
}

pub faults_unanswered : (status loads_before loads puts : ℕ) → status ≡ 8 →
    CountsFaults status loads_before loads puts puts
faults_unanswered status loads_before loads puts is = record {
  load_failed = λ five. absurd (omega (arith, is, five));
  put_failed = λ seven. absurd (omega (arith, is, seven));
  puts_kept = λ other. refl;
  loads_kept = λ five. λ seven. λ eight. absurd (eight is);
}
