-- What the chosen judge means.
use Rattle.judge.specs.declared.calendar_judge.CalendarJudge.{CalendarJudge}
use Rattle.judge.specs.declared.choice.AnyJudge.{AnyJudge}
use Rattle.judge.specs.declared.choice.AnyJudge.TheVariants.{Nobody, Headers, Calendars, Both}
use Rattle.judge.specs.declared.header_judge.HeaderJudge.{HeaderJudge}
use Rattle.judge.specs.Meaning.{Meaning, nobody, paired}
use Rattle.judge.specs.HeaderRules.{standing}
use Rattle.judge.specs.CalendarRules.{calendar_meaning}

abbrev headers_of : HeaderJudge → Meaning
headers_of h = standing h.base h.covered.now

abbrev calendars_of : CalendarJudge → Meaning
calendars_of c = calendar_meaning c.text.now

abbrev pub chosen : AnyJudge → Meaning
chosen Nobody = nobody
chosen (Headers h) = headers_of h
chosen (Calendars c) = calendars_of c
chosen (Both h c) = paired (headers_of h) (calendars_of c)
