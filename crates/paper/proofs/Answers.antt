-- Every answer is determined, crate by crate.
-- Assumes nothing.
use Rattle.paper.specs.Answers.{AnswersDetermined}
use Rattle.paper.proofs.OfDecide as OfDecide
use Rattle.paper.proofs.OfWire as OfWire
use Rattle.paper.proofs.OfShaper as OfShaper
use Rattle.paper.proofs.OfPlain as OfPlain
use Rattle.paper.proofs.OfTally as OfTally
use Rattle.paper.proofs.OfSummary as OfSummary
use Rattle.paper.proofs.OfRecord as OfRecord
use Rattle.paper.proofs.OfAccount as OfAccount
use Rattle.paper.proofs.OfExcerpt as OfExcerpt
use Rattle.paper.proofs.OfRoll as OfRoll
use Rattle.paper.proofs.OfIndex as OfIndex
use Rattle.paper.proofs.OfStretch as OfStretch
use Rattle.paper.proofs.OfReport as OfReport
use Rattle.paper.proofs.OfWindow as OfWindow
use Rattle.paper.proofs.OfApart as OfApart
use Rattle.paper.proofs.OfRing as OfRing
use Rattle.paper.proofs.OfWrap as OfWrap
use Rattle.paper.proofs.OfSheet as OfSheet
use Rattle.paper.proofs.OfReader as OfReader
use Rattle.paper.proofs.OfFeed as OfFeed
use Rattle.paper.proofs.OfHexText as OfHexText
use Rattle.paper.proofs.OfSettings as OfSettings
use Rattle.paper.proofs.OfQueue as OfQueue
use Rattle.paper.proofs.OfRates as OfRates
use Rattle.paper.proofs.OfAdvert as OfAdvert
use Rattle.paper.proofs.OfHeard as OfHeard
use Rattle.paper.proofs.OfFair as OfFair
use Rattle.paper.proofs.OfCredits as OfCredits
use Rattle.paper.proofs.OfFlow as OfFlow
use Rattle.paper.proofs.OfSelection as OfSelection
use Rattle.paper.proofs.OfStation as OfStation
use Rattle.paper.proofs.OfSlots as OfSlots
use Rattle.paper.proofs.OfLayout as OfLayout
use Rattle.paper.proofs.OfAnswer as OfAnswer
use Rattle.paper.proofs.OfHeartbeat as OfHeartbeat
use Rattle.paper.proofs.OfRpr as OfRpr
use Rattle.paper.proofs.OfEntry as OfEntry

pub answers_determined : AnswersDetermined
answers_determined =
    record {
      of_decide = OfDecide.functions;
      of_wire = OfWire.functions;
      of_shaper = OfShaper.functions;
      of_plain = OfPlain.functions;
      of_tally = OfTally.functions;
      of_summary = OfSummary.functions;
      of_record = OfRecord.functions;
      of_account = OfAccount.functions;
      of_excerpt = OfExcerpt.functions;
      of_roll = OfRoll.functions;
      of_index = OfIndex.functions;
      of_stretch = OfStretch.functions;
      of_report = OfReport.functions;
      of_window = OfWindow.functions;
      of_apart = OfApart.functions;
      of_ring = OfRing.functions;
      of_wrap = OfWrap.functions;
      of_sheet = OfSheet.functions;
      of_reader = OfReader.functions;
      of_feed = OfFeed.functions;
      of_hex_text = OfHexText.functions;
      of_settings = OfSettings.functions;
      of_queue = OfQueue.functions;
      of_rates = OfRates.functions;
      of_advert = OfAdvert.functions;
      of_heard = OfHeard.functions;
      of_fair = OfFair.functions;
      of_credits = OfCredits.functions;
      of_flow = OfFlow.functions;
      of_selection = OfSelection.functions;
      of_station = OfStation.functions;
      of_slots = OfSlots.functions;
      of_layout = OfLayout.functions;
      of_answer = OfAnswer.functions;
      of_heartbeat = OfHeartbeat.functions;
      of_rpr = OfRpr.functions;
      of_entry = OfEntry.functions;
    }
